use Rattle.ls_base.proofs.Vocabulary.{◌∙◌, ◌≡◌, IsInOrder, IsPermutation, ap, arith, dedup, dedup_is, is_among, is_same, length_permutation, list_any-IsPermutation, subst, sym, with_items_is}
use Rattle.ls_base.proofs.Orders.{Ascends-sorted, among-dedup, dedup-in_order}
use Rattle.ls_base.proofs.reduction.put_in_order.Goals as goal

moved : (c : goal.After-dedup) → IsPermutation c.args.sets.now.items c.sort.new.sets
moved c = subst (λ l. IsPermutation l c.sort.new.sets) c.deref_mut.ensures.value c.sort.ensures.permutation

-- the sorted sets, each once
once : (c : goal.After-dedup) → c.dedup.new.self.items ≡ dedup is_same c.sort.new.sets
unfolding is_same
once c =
    dedup_is is_same _ c.dedup.new.self.items c.dedup.ensures.filtered
    ∙ ap (dedup is_same) (with_items_is c.args.sets.now c.sort.new.sets (omega (arith, length_permutation c.args.sets.now.items c.sort.new.sets (moved c))))

pub returns-clause-in_order : goal.returns-clause-in_order
returns-clause-in_order c = subst IsInOrder (sym (once c)) (dedup-in_order c.sort.new.sets (Ascends-sorted c.sort.new.sets c.sort.ensures.sorted))

pub returns-clause-same : goal.returns-clause-same
returns-clause-same c = λ k.
    ap (λ l. is_among l k) (once c) ∙ among-dedup c.sort.new.sets k ∙ sym (list_any-IsPermutation (is_same k) c.args.sets.now.items c.sort.new.sets (moved c))

pub returns-clause-few : goal.returns-clause-few
returns-clause-few c = omega (arith, c.dedup.ensures.bound, length_permutation c.args.sets.now.items c.sort.new.sets (moved c))
