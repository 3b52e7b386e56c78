use Rattle.ls_weight.proofs.Vocabulary.{◌-◌, ◌<◌, ◌≤◌, ℕ, length, slice_index}
use Rattle.ls_weight.proofs.heaviest.heaviest.Given as goal

-- the first greatest so far, and the next above it
abbrev pub invariant-loop-next : goal.invariant-loop-next
invariant-loop-next l = record {
  later : l.best < l.next;
  within : l.next ≤ length l.weights;
  most : (k : ℕ) → k < l.next → slice_index l.weights k ≤ slice_index l.weights l.best;
  before : (k : ℕ) → k < l.best → slice_index l.weights k < slice_index l.weights l.best;
  above : l.next < length l.weights → slice_index l.weights l.best < slice_index l.weights l.next;
}

abbrev pub decreases-loop-next : goal.decreases-loop-next
decreases-loop-next l = length l.weights - l.next
