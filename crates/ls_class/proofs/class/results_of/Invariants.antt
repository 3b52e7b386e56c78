use Rattle.ls_class.proofs.Vocabulary.{◌≡◌, lines_of, take}
use Rattle.ls_class.proofs.class.results_of.Given as goal

abbrev pub invariant-loop-place : goal.invariant-loop-place
invariant-loop-place l = l.results ≡ lines_of (take l.place l.t) (take l.place l.replays)
