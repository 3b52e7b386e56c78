use Rattle.std.proofs.Common.{◌≡◌}
use Rattle.ls_order.specs.Closing.{closed}
use Rattle.ls_order.proofs.closing.close.Given as goal

abbrev pub invariant-loop-item : goal.invariant-loop-item
invariant-loop-item l = l.rows ≡ closed l.item l.initial.rows
