use Rattle.ls_rules.proofs.Vocabulary.{◌-◌, ◌≡◌, ◌≤◌, ℕ, length, places_at}
use Rattle.ls_rules.proofs.index.widen.Given as goal

abbrev pub invariant-loop-alloc : goal.invariant-loop-alloc
invariant-loop-alloc l = record {
  places : (i : ℕ) → places_at l.lists.items i ≡ places_at l.initial.lists.items i;
  few : length l.lists.items ≤ l.n;
}

abbrev pub decreases-loop-alloc : goal.decreases-loop-alloc
decreases-loop-alloc l = l.n - length l.lists.items
