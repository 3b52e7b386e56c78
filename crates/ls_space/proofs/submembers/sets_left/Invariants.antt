use Rattle.ls_space.proofs.Passing.{IsKept}
use Rattle.ls_space.proofs.submembers.sets_left.Given as goal

abbrev pub invariant-loop-place : goal.invariant-loop-place
invariant-loop-place l = IsKept l.left.items l.sets l.place
