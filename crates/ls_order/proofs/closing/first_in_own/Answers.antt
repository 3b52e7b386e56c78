use Rattle.std.proofs.Common.{◌∙◌, ap, length, sym}
use Rattle.ls_set.specs.ItemSet.{has}
use Rattle.ls_origins.specs.Relations.{below_of}
use Rattle.ls_order.proofs.Finding.{found-next}
use Rattle.ls_order.proofs.Rows.{row-read}
use Rattle.ls_order.proofs.closing.first_in_own.Goals as goal

pub loop-item-preserved : goal.loop-item-preserved
loop-item-preserved c =
    let rows = c.args.rows.now in
    let item = c.loop-item.item in
    let read =
    row-read rows item c.index-rows-item.result c.loop-item-test.true c.index-rows-item.is in
    found-next (λ q. has (below_of rows q) q) item (length rows) c.loop-item-test.true
    (ap (λ s. has s item) (sym read) ∙ sym c.has.ensures ∙ c.if-has.false)
    c.loop-item.invariant
