use Rattle.ls_query.proofs.Vocabulary.{◌+◌, ◌<◌, ◌≡◌, ◌≤◌, ℕ, blocks, choose, false, is_too_wide, length, most_sets}
use Rattle.ls_query.proofs.counting.count_sets.Given as goal

-- the sets up to the size so far are counted, and are not too many
abbrev pub invariant-loop-size : goal.invariant-loop-size
invariant-loop-size l = record {
  coefficient : l.of_size ≡ choose l.n l.size;
  counted : l.sets ≡ length (blocks l.n l.size);
  few : l.sets ≤ most_sets;
  before : (j : ℕ) → 1 ≤ j → j < l.size + 1 → is_too_wide l.n j ≡ false;
}
