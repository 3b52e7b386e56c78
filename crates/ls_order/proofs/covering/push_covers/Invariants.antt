use Rattle.std.proofs.Common.{length}
use Rattle.ls_order.proofs.CoverLists.{ArePushed}
use Rattle.ls_order.proofs.covering.push_covers.Given as goal

abbrev pub invariant-loop-item : goal.invariant-loop-item
invariant-loop-item l =
    ArePushed (length l.below) l.below l.low l.item l.initial.covers_so_far l.covers_so_far
