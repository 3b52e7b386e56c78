use Rattle.ls_infer.proofs.Vocabulary.{◌∙◌, ap, is_among, list_all, list_all-set}
use Rattle.ls_infer.proofs.witnesses.Witnesses.keep.Goals as goal

pub returns-in-Some : goal.returns-in-Some
returns-in-Some c = λ f h member. list_all-set (is_among f) c.self.inside.states.items _ c.args.state (ap (list_all (is_among f)) c.self.view_is ∙ h) member
