use Rattle.ls_infer.proofs.Vocabulary.{◌∙◌, IsWithin-from, sym}
use Rattle.ls_infer.proofs.narrowing.is_of_use.Goals as goal

pub returns-then-has-clause-within : goal.returns-then-has-clause-within
returns-then-has-clause-within c h = IsWithin-from c.args.state c.args.outside (sym c.is_within-then-has.ensures ∙ h)
