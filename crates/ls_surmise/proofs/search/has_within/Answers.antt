use Rattle.ls_surmise.proofs.Vocabulary.{◌+◌, ◌∙◌, ◌≡◌, IsInOrder, Items, List, Some, ap, ap₂, comes_before, empty, get_or, least, minus, subst, sym, union}
use Rattle.ls_surmise.proofs.Jumps.{rest, drop-in_order, none-lacking, found, jumped}
use Rattle.ls_surmise.proofs.search.has_within.Goals as goal

pub returns-in_default : goal.returns-in_default
returns-in_default c =
    let none = none-lacking c.args.set c.index-sets-place.result (ap least (sym c.minus.ensures) ∙ sym c.in_default.ensures.value) in
    found c.args.set c.index-sets-place.result c.args.sets.now c.loop-place.place _ c.loop-place-test.true c.index-sets-place.is none c.loop-place.invariant

pub count_before-requires : goal.count_before-requires
count_before-requires c = subst IsInOrder (sym (rest c.args.sets.now (c.loop-place.place + 1))) (drop-in_order c.args.sets.now (c.loop-place.place + 1) c.requires)

pub loop-place-preserved : goal.loop-place-preserved
loop-place-preserved c =
    let sets = c.args.sets.now in
    let place = c.loop-place.place in
    let next = c.union-next.ensures ∙ ap₂ union c.keep_before.ensures (c.minus-in-loop-place.ensures ∙ ap (minus c.args.set) c.full.ensures) in
    let least_is : least (minus c.index-sets-place.result c.args.set) ≡ Some c.in-Some.x = ap least (sym c.minus.ensures) ∙ sym c.in-Some.ensures.value in
    jumped c.args.set c.index-sets-place.result c.in-Some.x sets place c.count_before.result _ c.requires c.loop-place-test.true c.index-sets-place.is least_is
    (λ k l. sym (ap₂ (λ (g : List Items) (n : Items). comes_before (get_or g k empty) n) (rest sets (place + 1)) next) ∙ c.count_before.ensures.before k l) c.loop-place.invariant
