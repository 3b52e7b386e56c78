use Rattle.ls_rules.proofs.Vocabulary.{◌-◌, ◌≡◌, ◌≤◌, ℕ, length, most_items, set_at}
use Rattle.ls_rules.proofs.sets.widen.Given as goal

abbrev pub invariant-loop-list : goal.invariant-loop-list
invariant-loop-list l = record {
  sets : (i : ℕ) → set_at l.list.items i ≡ set_at l.initial.list.items i;
  len : length l.initial.list.items ≤ length l.list.items;
  few : length l.initial.list.items ≤ most_items → length l.list.items ≤ most_items;
}

abbrev pub decreases-loop-list : goal.decreases-loop-list
decreases-loop-list l = l.n - length l.list.items
