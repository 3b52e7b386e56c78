use Rattle.std.proofs.Common.{◌+◌, ◌∙◌, subst, sym}
use Rattle.ls_set.specs.ItemSet.{Items}
use Rattle.ls_order.proofs.Rows.{AreAboveTo, above-none, above-one, above-other, above-all}
use Rattle.ls_order.proofs.covering.above.Goals as goal
use Rattle.ls_order.proofs.covering.above.Goals.{then-has, else-has}

pub loop-item-init : goal.loop-item-init
loop-item-init c =
    subst (λ (s : Items). AreAboveTo c.args.below.now c.args.low 0 s) (sym c.empty-above.ensures)
    (above-none c.args.below.now c.args.low)

pub loop-item-preserved : goal.loop-item-preserved
loop-item-preserved c =
    let below = c.args.below.now in
    let low = c.args.low in
    let item = c.loop-item.item in
    let so_far = c.loop-item.above in
    let row = c.index-below-item.result in
    let is = c.index-below-item.is in
    elim c.if-has.branch [
      | then-has w ↦ subst (λ (s : Items). AreAboveTo below low (item + 1) s)
          (sym (w.above-is ∙ w.with-above.ensures))
          (above-one below low item so_far row c.loop-item-test.true is
          (sym c.has.ensures ∙ w.if-has.true) c.loop-item.invariant)
      | else-has w ↦ subst (λ (s : Items). AreAboveTo below low (item + 1) s) (sym w.above-is)
          (above-other below low item so_far row c.loop-item-test.true is
          (sym c.has.ensures ∙ w.if-has.false) c.loop-item.invariant)
    ]

pub returns : goal.returns
returns c =
    above-all c.args.below.now c.args.low c.loop-item.item c.loop-item.above c.loop-item-test.false
    c.loop-item.invariant
