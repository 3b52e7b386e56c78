use Rattle.std.proofs.Common.{ℕ, ◌+◌, ◌==◌, ◌&&◌, ◌∙◌, List, ap, length, not, subst, sym}
use Rattle.ls_set.specs.ItemSet.{empty, has, is_same, meet, without}
use Rattle.ls_order.proofs.Covered.{cover-by_sets}
use Rattle.ls_order.proofs.CoverLists.{ArePushed, pushed-begin, pushed-one, pushed-none, pushed-all}
use Rattle.ls_order.proofs.Rows.{row-read}
use Rattle.ls_order.proofs.covering.push_covers.Goals as goal
use Rattle.ls_order.proofs.covering.push_covers.Goals.{then-covers+in_ok-push, else-covers}

pub loop-item-init : goal.loop-item-init
loop-item-init c =
    pushed-begin (length c.args.below.now) c.args.below.now c.args.low c.args.covers_so_far.now

pub loop-item-preserved : goal.loop-item-preserved
loop-item-preserved c =
    let below = c.args.below.now in
    let n = length below in
    let low = c.args.low in
    let item = c.loop-item.item in
    let given = c.args.covers_so_far.now in
    let pushed = c.loop-item.covers_so_far in
    let above = c.above-above.result in
    let row = c.index-below-item.result in
    let read = row-read below item row c.loop-item-test.true c.index-below-item.is in
    let told = cover-by_sets n below low item above c.requires.preorder c.above-above.ensures
    ∙ ap (λ s. has s low && (not (low == item)
    && is_same (without (without (meet s above) low) item) empty)) (sym read)
    ∙ sym c.covers.ensures in
    elim c.if-covers.branch [
      | then-covers+in_ok-push w ↦ subst
          (λ (cs : List (ℕ × ℕ)). ArePushed n below low (item + 1) given cs)
          (sym (w.covers_so_far-is ∙ w.in_ok-push.ensures.ok))
          (pushed-one n below low item given pushed c.loop-item-test.true (told ∙ w.if-covers.true)
          c.loop-item.invariant)
      | else-covers w ↦ subst (λ (cs : List (ℕ × ℕ)). ArePushed n below low (item + 1) given cs)
          (sym w.covers_so_far-is)
          (pushed-none n below low item given pushed c.loop-item-test.true
          (told ∙ w.if-covers.false)
          c.loop-item.invariant)
    ]

pub returns : goal.returns
returns c =
    pushed-all (length c.args.below.now) c.args.below.now c.args.low c.loop-item.item
    c.args.covers_so_far.now c.loop-item.covers_so_far c.loop-item-test.false c.loop-item.invariant
