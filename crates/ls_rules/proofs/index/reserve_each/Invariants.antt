use Rattle.ls_rules.proofs.Vocabulary.{◌<◌, ◌≡◌, ℕ, places_at, spare_at}
use Rattle.ls_rules.proofs.index.reserve_each.Given as goal

abbrev pub invariant-loop-list : goal.invariant-loop-list
invariant-loop-list l = record {
  places : (i : ℕ) → places_at l.lists i ≡ places_at l.initial.lists i;
  room : (i : ℕ) → i < l.list-index → 0 < spare_at l.lists i;
}
