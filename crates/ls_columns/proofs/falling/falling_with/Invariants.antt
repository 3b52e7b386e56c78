use Rattle.ls_columns.proofs.Vocabulary.{IsWithin, has, len, set_at, true, ℕ, ◌≡◌}
use Rattle.ls_columns.proofs.falling.falling_with.Given as goal

abbrev pub invariant-loop-i : goal.invariant-loop-i
invariant-loop-i l = record {
  only : (j : ℕ) → has l.with j ≡ true → (i : ℕ) × (has l.fn.fallen i ≡ true) × (has (set_at l.falling i) j ≡ true);
  part : IsWithin l.left l.fn.fallen;
}

abbrev pub decreases-loop-i : goal.decreases-loop-i
decreases-loop-i l = len l.left
