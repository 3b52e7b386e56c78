use Rattle.ls_infer.proofs.Vocabulary.{filter_same, rules}
use Rattle.ls_infer.proofs.standing_no.take_out.Goals as goal

pub returns : goal.returns
returns c = filter_same _ _ _ (λ x b f' k. search rules) _ _ c.retain.ensures.filtered
