use Rattle.std.proofs.Common.{length}
use Rattle.ls_order.proofs.Strict.{made-cycle, made-order, if-none}
use Rattle.ls_order.proofs.closing.make_order.Goals as goal

pub returns-then-is_none-clause-cycle : goal.returns-then-is_none-clause-cycle
returns-then-is_none-clause-cycle c = λ pairs small are.
    made-cycle (length c.args.rows.now) pairs c.args.rows.now c.close.new.rows
    c.first_in_own-cycle.result small are c.close.ensures c.first_in_own-cycle.ensures.first

pub returns-then-is_none-clause-below : goal.returns-then-is_none-clause-below
returns-then-is_none-clause-below c = λ pairs small are.
    if-none c.first_in_own-cycle.result _
    (made-order (length c.args.rows.now) pairs c.args.rows.now c.close.new.rows c.put_own.new.rows
    small are c.close.ensures c.put_own.ensures.as_many c.put_own.ensures.own)

pub returns-else-is_none-clause-cycle : goal.returns-else-is_none-clause-cycle
returns-else-is_none-clause-cycle c = λ pairs small are.
    made-cycle (length c.args.rows.now) pairs c.args.rows.now c.close.new.rows
    c.first_in_own-cycle.result small are c.close.ensures c.first_in_own-cycle.ensures.first
