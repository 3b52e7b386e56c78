use Rattle.ls_base.proofs.Lowest.{AreLowest}
use Rattle.ls_base.proofs.least.lowest_touching.Given as goal

abbrev pub invariant-loop-place : goal.invariant-loop-place
invariant-loop-place l = AreLowest l.lowest.items l.items l.sets l.place
