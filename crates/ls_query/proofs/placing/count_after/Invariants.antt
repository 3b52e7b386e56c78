use Rattle.ls_query.proofs.Vocabulary.{◌+◌, ◌<◌, ◌≡◌, ◌≤◌, All, count_after, items, len, length}
use Rattle.ls_query.proofs.placing.count_after.Given as goal

-- what is counted, and what is left to count
abbrev pub invariant-loop-item : goal.invariant-loop-item
invariant-loop-item l = record {
  counted : l.after + count_after l.n (items l.item-iterator) ≡ count_after l.n (items l.fn.a);
  below : All (λ i. i < l.n) (items l.item-iterator);
  size : l.left ≡ length (items l.item-iterator);
  most : l.left ≤ len l.fn.a;
}
