use Rattle.ls_weight.proofs.Vocabulary.{◌*◌, ◌<◌, ◌≡◌, ◌≤◌, ℕ, agrees_at, false}
use Rattle.ls_weight.proofs.columns.next_agreeing.Given as goal

-- no place before this word agrees
abbrev pub invariant-loop-w : goal.invariant-loop-w
invariant-loop-w l = (k : ℕ) → l.from ≤ k → k < 64 * l.w → agrees_at l.column l.right k ≡ false
