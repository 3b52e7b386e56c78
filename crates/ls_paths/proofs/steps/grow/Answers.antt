use Rattle.ls_paths.proofs.Vocabulary.{◌∙◌, arith, length}
use Rattle.ls_paths.proofs.Written.{outside-less, grow-more, grow-end}
use Rattle.ls_paths.proofs.steps.grow.Goals as goal

pub loop-slot-preserved : goal.loop-slot-preserved
loop-slot-preserved g c =
    let n = g.F.Inside.item_count c.args.f.now in
    let f = g.F.Inside.members c.args.f.now in
    rw c.with-reached.ensures (record { grows = grow-more n f (length c.args.order.now) c.loop-slot.slot-index c.loop-slot.order c.loop-slot.reached c.least_item-item.result _ c.loop-slot.invariant.grows (omega arith) (omega arith) c.least_item-item.ensures.value; outside = c.without-left.ensures ∙ outside-less n c.loop-slot.reached c.loop-slot.left c.least_item-item.result c.loop-slot.invariant.outside; member = c.least_item-item.ensures.member })

pub returns : goal.returns
returns g c =
    let n = g.F.Inside.item_count c.args.f.now in
    let f = g.F.Inside.members c.args.f.now in
    grow-end n f (length c.args.order.now) c.loop-slot.slot-index c.loop-slot.order c.loop-slot.reached _ c.loop-slot.invariant.grows (omega arith) (omega arith)
