use Rattle.std.proofs.Common.{◌≡◌, ◌∙◌, ◌+◌, ◌-◌, arith, subst, sym}
use Rattle.ls_base.proofs.Lowest.{AreLowest, covered, lowest-above, lowest-all, lowest-apart}
use Rattle.ls_base.proofs.Lowest.{lowest-none, lowest-taken}
use Rattle.ls_base.proofs.least.lowest_touching.Goals as goal
use Rattle.ls_base.proofs.least.lowest_touching.Goals.{else-touches-via-else-touches}
use Rattle.ls_base.proofs.least.lowest_touching.Goals.{else-touches-via-then-touches+else-not-has_within}

pub loop-place-init : goal.loop-place-init
loop-place-init c =
    lowest-none c.new-lowest.result.items c.args.items c.args.sets.now c.new-lowest.ensures.items

pub loop-place-preserved-then-not-has_within : goal.loop-place-preserved-then-not-has_within
loop-place-preserved-then-not-has_within c =
    let i = c.loop-place.place - 1 in
    let e : c.loop-place.place ≡ i + 1 = omega arith in
    let taken = c.loop-place.lowest.items in
    let sets = c.args.sets.now in
    let items = c.args.items in
    subst (λ l. AreLowest l items sets i) (sym c.in_ok-push.ensures.items)
    (lowest-taken taken sets items c.index-sets-place.result i (omega arith) c.index-sets-place.is
    (subst (AreLowest taken items sets) e c.loop-place.invariant)
    (sym c.touches.ensures ∙ c.if-touches.true))

pub loop-place-preserved : goal.loop-place-preserved
loop-place-preserved c =
    let i = c.loop-place.place - 1 in
    let e : c.loop-place.place ≡ i + 1 = omega arith in
    let taken = c.loop-place.lowest.items in
    let sets = c.args.sets.now in
    let items = c.args.items in
    let k = c.index-sets-place.result in
    let had = subst (AreLowest taken items sets) e c.loop-place.invariant in
    elim c.else-touches.branch [
      | else-touches-via-then-touches+else-not-has_within w ↦
          lowest-above taken sets items k i (omega arith) c.index-sets-place.is had
          (covered w.deref.result.now taken k w.has_within.result w.deref.ensures.value
          w.has_within.ensures w.if-not-has_within.false)
      | else-touches-via-else-touches w ↦
          lowest-apart taken sets items k i (omega arith) c.index-sets-place.is had
          (sym c.touches.ensures ∙ w.if-touches.false)
    ]

pub returns : goal.returns
returns c =
    let all = lowest-all c.loop-place.lowest.items c.args.items c.args.sets.now c.loop-place.place
    (omega arith) c.loop-place.invariant in
    record { below = all.0; few = all.1 }
