use Rattle.ls_order.proofs.Rows.{AreOwn}
use Rattle.ls_order.proofs.closing.put_own.Given as goal

abbrev pub invariant-loop-item : goal.invariant-loop-item
invariant-loop-item l = AreOwn l.initial.rows l.item l.rows
