use Rattle.std.proofs.Common.{◌∙◌, ap, set, sym}
use Rattle.std.proofs.lemmas.List.Edits.{map_over_more}
use Rattle.ls_order.specs.Closing.{joined}
use Rattle.ls_order.proofs.closing.join_all.Goals as goal

pub loop-row-preserved : goal.loop-row-preserved
loop-row-preserved c =
    let rows = c.loop-row.rows in
    let i = c.loop-row.row-index in
    let next = joined c.args.item c.args.below in
    ap (set rows i) (c.join.ensures ∙ ap next (sym c.row-item.is))
    ∙ map_over_more next c.args.rows.now rows i c.row-item.result c.loop-row-test.true
    c.loop-row.invariant c.row-item.is
