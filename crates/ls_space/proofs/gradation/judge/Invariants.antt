use Rattle.ls_space.proofs.Vocabulary.{◌≡◌, drop, first_double}
use Rattle.ls_space.proofs.gradation.judge.Given as goal

abbrev pub invariant-loop-place : goal.invariant-loop-place
invariant-loop-place l = first_double l.base l.base ≡ first_double l.base (drop l.place l.base)
