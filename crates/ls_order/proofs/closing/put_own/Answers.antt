use Rattle.std.proofs.Common.{◌+◌, set, subst, sym}
use Rattle.ls_set.specs.ItemSet.{Items}
use Rattle.ls_order.proofs.Rows.{AreOwn, own-next, own-all}
use Rattle.ls_order.proofs.closing.put_own.Goals as goal

pub loop-item-preserved : goal.loop-item-preserved
loop-item-preserved c =
    let given = c.args.rows.now in
    let rows = c.loop-item.rows in
    let item = c.loop-item.item in
    subst (λ (row : Items). AreOwn given (item + 1) (set rows item row)) (sym c.with.ensures)
    (own-next given rows item c.index-rows-item.result c.loop-item-test.true
    c.loop-item.auto.rows c.index-rows-item.is c.loop-item.invariant)

pub returns-clause-own : goal.returns-clause-own
returns-clause-own c =
    own-all c.args.rows.now c.loop-item.rows c.loop-item.item c.loop-item-test.false
    c.loop-item.invariant
