use Rattle.std.proofs.Common.{length}
use Rattle.ls_order.proofs.CoverLists.{AreCovered}
use Rattle.ls_order.proofs.covering.all_covers.Given as goal

abbrev pub invariant-loop-low : goal.invariant-loop-low
invariant-loop-low l = AreCovered (length l.below) l.below l.low l.all
