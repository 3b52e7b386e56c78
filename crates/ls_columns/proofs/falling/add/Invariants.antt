use Rattle.ls_columns.proofs.Vocabulary.{FallsWith, IsFalling, List, Query, has, length, most_items, true, ℕ, ◌≡◌}
use Rattle.ls_columns.proofs.falling.add.Given as goal

abbrev pub invariant-loop-j : goal.invariant-loop-j
invariant-loop-j l = record {
  sound : (rs : List Query) → IsFalling rs l.initial.falling → ((m : ℕ) → has l.more m ≡ true → FallsWith rs l.i m) → IsFalling rs l.falling;
  count : length l.falling ≡ most_items;
}
