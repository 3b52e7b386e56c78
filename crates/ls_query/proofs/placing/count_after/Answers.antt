use Rattle.ls_query.proofs.Vocabulary.{◌<◌, ◌∙◌, All, All-tail, ap, arith, items, len, length, refl, subst}
use Rattle.ls_query.proofs.After.{after-few, counted-next, items-few, len-few}
use Rattle.ls_query.proofs.placing.count_after.Goals as goal

pub loop-item-init : goal.loop-item-init
unfolding len
loop-item-init c =
    rw (c.into_iter-item-iterator.ensures.into_iter_gives ∙ c.items-item-items.ensures, c.len-left.ensures)
    (record { counted = omega arith; below = items-few c.args.n c.args.a c.requires.within; size = refl; most = omega arith })

pub count_of_size-after-requires-clause-sizes : goal.count_of_size-after-requires-clause-sizes
count_of_size-after-requires-clause-sizes c =
    omega (arith, len-few c.args.n c.args.a c.requires.within, c.requires.items, c.loop-item.invariant.most)

pub overflow_add-after : goal.overflow_add-after
overflow_add-after c =
    let next = counted-next c.args.n c.args.a c.loop-item.item-iterator c.next.new.self c.in-Some.item c.loop-item.after c.loop-item.left c.in-Some.ensures.steps c.loop-item.invariant.size c.loop-item.invariant.counted in
    let most = c.requires.few c.args.n (len c.args.a) (omega arith) (omega arith) in
    rw c.count_of_size-after.ensures (omega (arith, next, most, after-few c.args.n c.args.a c.requires.within))

pub loop-item-preserved : goal.loop-item-preserved
loop-item-preserved c =
    let step = c.in-Some.ensures.steps in
    let inv = c.loop-item.invariant in
    rw c.count_of_size-after.ensures (record {
      counted = counted-next c.args.n c.args.a c.loop-item.item-iterator c.next.new.self c.in-Some.item c.loop-item.after c.loop-item.left step inv.size inv.counted;
      below = All-tail (λ i. i < c.args.n) c.in-Some.item (items c.next.new.self) (subst (All (λ i. i < c.args.n)) step inv.below);
      size = omega (arith, inv.size, ap length step);
      most = omega (arith, inv.most);
    })
