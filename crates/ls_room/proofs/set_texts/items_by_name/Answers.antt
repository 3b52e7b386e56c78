use Rattle.ls_room.proofs.Vocabulary.{◌-◌, ◌∙◌, ◌≡◌, ap, arith, by_name, insert, insert_by_name, length, numbers_from, suc, sym}
use Rattle.ls_room.proofs.NameOrder.{by_name-next, by_name-none}
use Rattle.ls_room.proofs.set_texts.items_by_name.Goals as goal

pub loop-item-init : goal.loop-item-init
loop-item-init c =
    let names = c.args.domain.now in
    let count : length names ≡ c.count-count.result = sym c.count-count.ensures.value in
    record {
      within = omega arith;
      order = c.in_ok-order.ensures.items ∙ by_name-none names (length names) ∙ ap (λ i. by_name names (numbers_from i (length names - i))) count;
    }

pub loop-item-preserved : goal.loop-item-preserved
loop-item-preserved c =
    let names = c.args.domain.now in
    let i = c.loop-item.item - 1 in
    let next : c.loop-item.item ≡ suc i = omega arith in
    let given : c.deref.result.now ≡ c.loop-item.order.items = c.deref.ensures.value in
    record {
      within = omega arith;
      order = c.in_ok-insert.ensures.items ∙ ap (λ l. insert l c.place_by_name-place.result i) (sym given) ∙ c.place_by_name-place.ensures.place ∙ ap (insert_by_name names i) given
          ∙ by_name-next names (length names) i c.loop-item.item c.loop-item.order.items next c.loop-item.invariant.within c.loop-item.invariant.order;
    }

pub returns-clause-order : goal.returns-clause-order
returns-clause-order c =
    let names = c.args.domain.now in
    let none : c.loop-item.item ≡ 0 = omega arith in
    c.loop-item.invariant.order ∙ ap (λ i. by_name names (numbers_from i (length names - i))) none
    ∙ ap (λ m. by_name names (numbers_from 0 m)) (let e : length names - 0 ≡ length names = omega arith in e)
