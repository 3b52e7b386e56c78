use Rattle.ls_paths.proofs.Vocabulary.{◌-◌, ◌∙◌, ◌≡◌, List, None, Some, ℕ, ap, arith, full, get_or, is_among, minus, next_item_after, refl, sym}
use Rattle.ls_paths.proofs.Written.{outside-less, taken-at, leave-past, leave-write, next-member}
use Rattle.ls_paths.proofs.steps.leave.Goals as goal

pub loop-place-init : goal.loop-place-init
loop-place-init g c =
    let n = g.F.Inside.item_count c.args.f.now in
    record { passed = refl; same = refl; set = c.requires.set; small = c.requires.small; outside = c.minus-outside.ensures ∙ ap (λ s. minus s c.args.k) (c.full.ensures ∙ ap full c.items.ensures.count) }

pub without-reached-requires : goal.without-reached-requires
without-reached-requires g c =
    let n = g.F.Inside.item_count c.args.f.now in
    let order = c.args.order.now in
    let j = c.loop-place.place - 1 in
    let inv = c.loop-place.invariant in
    let back = taken-at n order c.loop-place.order j c.loop-place.place c.loop-place.reached c.loop-place.outside (omega arith) (omega arith) c.requires.fresh inv.same inv.set inv.outside inv.small in
    omega (arith, back.less, c.items.ensures.count, c.items.ensures.few)

pub with-outside-requires : goal.with-outside-requires
with-outside-requires g c =
    let n = g.F.Inside.item_count c.args.f.now in
    let order = c.args.order.now in
    let j = c.loop-place.place - 1 in
    let inv = c.loop-place.invariant in
    let back = taken-at n order c.loop-place.order j c.loop-place.place c.loop-place.reached c.loop-place.outside (omega arith) (omega arith) c.requires.fresh inv.same inv.set inv.outside inv.small in
    omega (arith, back.less, c.items.ensures.count, c.items.ensures.few)

pub next_item-requires-clause-outside : goal.next_item-requires-clause-outside
next_item-requires-clause-outside g c =
    let n = g.F.Inside.item_count c.args.f.now in
    let order = c.args.order.now in
    let j = c.loop-place.place - 1 in
    let inv = c.loop-place.invariant in
    let back = taken-at n order c.loop-place.order j c.loop-place.place c.loop-place.reached c.loop-place.outside (omega arith) (omega arith) c.requires.fresh inv.same inv.set inv.outside inv.small in
    c.with-outside.ensures ∙ back.outside ∙ ap (minus (full n)) (sym c.without-reached.ensures)

pub next_item-requires-clause-member : goal.next_item-requires-clause-member
next_item-requires-clause-member g c =
    let n = g.F.Inside.item_count c.args.f.now in
    let f = g.F.Inside.members c.args.f.now in
    let order = c.args.order.now in
    let j = c.loop-place.place - 1 in
    let inv = c.loop-place.invariant in
    let back = taken-at n order c.loop-place.order j c.loop-place.place c.loop-place.reached c.loop-place.outside (omega arith) (omega arith) c.requires.fresh inv.same inv.set inv.outside inv.small in
    ap (is_among f) (c.without-reached.ensures ∙ back.set) ∙ c.requires.members j (omega arith)

pub next_item-requires-clause-item : goal.next_item-requires-clause-item
next_item-requires-clause-item g c =
    let n = g.F.Inside.item_count c.args.f.now in
    let order = c.args.order.now in
    let j = c.loop-place.place - 1 in
    let inv = c.loop-place.invariant in
    let back = taken-at n order c.loop-place.order j c.loop-place.place c.loop-place.reached c.loop-place.outside (omega arith) (omega arith) c.requires.fresh inv.same inv.set inv.outside inv.small in
    back.less

pub grow-requires-clause-outside : goal.grow-requires-clause-outside
grow-requires-clause-outside g c =
    let n = g.F.Inside.item_count c.args.f.now in
    let order = c.args.order.now in
    let j = c.loop-place.place - 1 in
    let inv = c.loop-place.invariant in
    let back = taken-at n order c.loop-place.order j c.loop-place.place c.loop-place.reached c.loop-place.outside (omega arith) (omega arith) c.requires.fresh inv.same inv.set inv.outside inv.small in
    c.without.ensures ∙ outside-less n c.without-reached.result c.with-outside.result c.in-Some.next (c.with-outside.ensures ∙ back.outside ∙ ap (minus (full n)) (sym c.without-reached.ensures)) ∙ ap (minus (full n)) (sym c.with.ensures)

pub grow-requires-clause-member : goal.grow-requires-clause-member
grow-requires-clause-member g c =
    let n = g.F.Inside.item_count c.args.f.now in
    let order = c.args.order.now in
    let j = c.loop-place.place - 1 in
    let inv = c.loop-place.invariant in
    let back = taken-at n order c.loop-place.order j c.loop-place.place c.loop-place.reached c.loop-place.outside (omega arith) (omega arith) c.requires.fresh inv.same inv.set inv.outside inv.small in
    let f = g.F.Inside.members c.args.f.now in
    let found : next_item_after n f c.without-reached.result (get_or order j 0) ≡ Some c.in-Some.next = ap (next_item_after n f c.without-reached.result) (ap (λ (xs : List ℕ). get_or xs j 0) (sym inv.same)) ∙ sym c.next_item.ensures.value ∙ c.in-Some.is in
    rw c.with.ensures (next-member n f c.without-reached.result (get_or order j 0) c.in-Some.next found)

pub returns-in-Some : goal.returns-in-Some
returns-in-Some g c =
    let n = g.F.Inside.item_count c.args.f.now in
    let order = c.args.order.now in
    let j = c.loop-place.place - 1 in
    let inv = c.loop-place.invariant in
    let back = taken-at n order c.loop-place.order j c.loop-place.place c.loop-place.reached c.loop-place.outside (omega arith) (omega arith) c.requires.fresh inv.same inv.set inv.outside inv.small in
    let f = g.F.Inside.members c.args.f.now in
    let found : next_item_after n f c.without-reached.result (get_or order j 0) ≡ Some c.in-Some.next = ap (next_item_after n f c.without-reached.result) (ap (λ (xs : List ℕ). get_or xs j 0) (sym inv.same)) ∙ sym c.next_item.ensures.value ∙ c.in-Some.is in
    inv.passed ∙ leave-write n f order c.loop-place.order j c.loop-place.place c.without-reached.result c.in-Some.next c.grow.new.order c.with.result (omega arith) (c.without-reached.ensures ∙ back.set) found inv.same (omega arith) c.with.ensures c.grow.ensures

pub loop-place-preserved : goal.loop-place-preserved
loop-place-preserved g c =
    let n = g.F.Inside.item_count c.args.f.now in
    let order = c.args.order.now in
    let j = c.loop-place.place - 1 in
    let inv = c.loop-place.invariant in
    let back = taken-at n order c.loop-place.order j c.loop-place.place c.loop-place.reached c.loop-place.outside (omega arith) (omega arith) c.requires.fresh inv.same inv.set inv.outside inv.small in
    let f = g.F.Inside.members c.args.f.now in
    let none : next_item_after n f c.without-reached.result (get_or order j 0) ≡ None = ap (next_item_after n f c.without-reached.result) (ap (λ (xs : List ℕ). get_or xs j 0) (sym inv.same)) ∙ sym c.next_item.ensures.value ∙ c.in_default.is in
    record {
      passed = inv.passed ∙ leave-past n f order j c.loop-place.place c.without-reached.result (omega arith) (c.without-reached.ensures ∙ back.set) none;
      same = inv.same;
      set = c.without-reached.ensures ∙ back.set;
      outside = c.with-outside.ensures ∙ back.outside ∙ ap (minus (full n)) (sym c.without-reached.ensures);
      small = rw c.without-reached.ensures back.small;
    }
