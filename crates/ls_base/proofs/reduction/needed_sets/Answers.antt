use Rattle.ls_base.proofs.Vocabulary.{◌∙◌, IsPermutation, Items, List, ap, arith, length}
use Rattle.ls_base.proofs.Vocabulary.{length_permutation, needed, subst, with_items_is}
use Rattle.ls_base.proofs.Reduced.{needed-few}
use Rattle.ls_base.proofs.Rising.{needed-sorted}
use Rattle.ls_base.proofs.reduction.needed_sets.Goals as goal

moved : (c : goal.After-drop-by_size-2) → IsPermutation c.in_ok-by_size.by_size.items
    c.sort_by_size.new.sets
moved c = subst (λ l. IsPermutation l c.sort_by_size.new.sets) c.deref_mut.ensures.value
    c.sort_by_size.ensures.permutation

pub returns-clause-needed : goal.returns-clause-needed
returns-clause-needed c =
    let sorted = with_items_is c.in_ok-by_size.by_size c.sort_by_size.new.sets (omega (
      arith,
      length_permutation c.in_ok-by_size.by_size.items c.sort_by_size.new.sets (moved c),
    )) in
    needed-sorted c.args.sets.now c.sort_by_size.new.sets c.in_ok-found.found.items
    c.put_in_order.new.sets.items c.requires.in_order
    (subst (λ (l : List Items). IsPermutation l c.sort_by_size.new.sets)
    c.in_ok-by_size.ensures.items (moved c))
    (c.in_ok-found.ensures ∙ ap needed (c.deref.ensures.value ∙ sorted))
    c.put_in_order.ensures.in_order c.put_in_order.ensures.same

pub returns-clause-few : goal.returns-clause-few
returns-clause-few c = let few = ap length (returns-clause-needed c) in omega (
  arith,
  few,
  needed-few c.args.sets.now,
)
