use Rattle.ls_infer.proofs.Vocabulary.{◌∙◌, ap, breaks, filter, filter_same, not, rules}
use Rattle.ls_infer.proofs.witnesses.Witnesses.let_go.Goals as goal

pub returns : goal.returns
returns c = filter_same _ (λ k. not (breaks k c.args.r.now)) _ (λ x b f' k. search rules) _ _ c.retain.ensures.filtered ∙ ap (filter (λ k. not (breaks k c.args.r.now))) c.self.view_is
