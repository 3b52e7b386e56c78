use Rattle.ls_room.proofs.Vocabulary.{◌<◌, ◌∙◌, ◌≡◌, ◌≤◌, ap₂, arith, below_more, false, get_or, is_lt, length, nat_cmp, slice_cmp, sym, true}
use Rattle.ls_room.proofs.NameOrder.{comes_first, insert-place}
use Rattle.ls_room.proofs.set_texts.place_by_name.Goals as goal

pub loop-place-init : goal.loop-place-init
loop-place-init c = λ m h. absurd (omega arith)

pub returns-then-lt-clause-place : goal.returns-then-lt-clause-place
returns-then-lt-clause-place c =
    let names = c.args.domain.now in
    let order = c.args.order.now in
    let k = c.loop-place.place in
    let test : k < length order = omega arith in
    let here : comes_first names c.args.item (get_or order k 0) ≡ true = ap₂ (λ v w. is_lt (slice_cmp nat_cmp v w)) (sym c.name-name.ensures) (sym c.name.ensures) ∙ sym c.lt.ensures ∙ c.if-lt.true in
    insert-place names c.args.item order k (omega arith) c.loop-place.invariant (λ h. here)

pub loop-place-preserved : goal.loop-place-preserved
loop-place-preserved c =
    let names = c.args.domain.now in
    let order = c.args.order.now in
    let here : comes_first names c.args.item (get_or order c.loop-place.place 0) ≡ false = ap₂ (λ v w. is_lt (slice_cmp nat_cmp v w)) (sym c.name-name.ensures) (sym c.name.ensures) ∙ sym c.lt.ensures ∙ c.if-lt.false in
    below_more (λ m. comes_first names c.args.item (get_or order m 0) ≡ false) c.loop-place.place c.loop-place.invariant here

pub returns-clause-place : goal.returns-clause-place
returns-clause-place c =
    let order = c.args.order.now in
    let all : length order ≤ c.loop-place.place = omega arith in
    insert-place c.args.domain.now c.args.item order (length order) (omega arith) (λ m h. c.loop-place.invariant m (omega arith)) (λ h. absurd (omega arith))
