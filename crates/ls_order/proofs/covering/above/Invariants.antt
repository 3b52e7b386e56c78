use Rattle.ls_order.proofs.Rows.{AreAboveTo}
use Rattle.ls_order.proofs.covering.above.Given as goal

abbrev pub invariant-loop-item : goal.invariant-loop-item
invariant-loop-item l = AreAboveTo l.below l.low l.item l.above
