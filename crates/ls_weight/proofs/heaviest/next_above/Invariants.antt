use Rattle.ls_weight.proofs.Vocabulary.{◌<◌, ◌≤◌, ℕ, slice_index}
use Rattle.ls_weight.proofs.heaviest.next_above.Given as goal

abbrev pub invariant-loop-i : goal.invariant-loop-i
invariant-loop-i l = (k : ℕ) → l.from ≤ k → k < l.i → slice_index l.weights k ≤ l.weight
