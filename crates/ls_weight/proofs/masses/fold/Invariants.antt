use Rattle.ls_weight.proofs.Vocabulary.{◌*◌, ◌+◌, ◌<◌, ◌≡◌, ◌≤◌, ℕ, map, slice_index, sum_below}
use Rattle.ls_weight.proofs.masses.fold.Given as goal

-- the pairs before this one are folded
abbrev pub invariant-loop-v : goal.invariant-loop-v
invariant-loop-v g l = let number = g.T.Amount.number in record {
  all : number l.all ≡ sum_below l.v (λ v. slice_index (map number l.fn.tables) (l.start + (2 * v + 1)));
  done : (k : ℕ) → k < l.v → slice_index (map number l.tables) (l.start + k) ≡ slice_index (map number l.fn.tables) (l.start + 2 * k) + slice_index (map number l.fn.tables) (l.start + (2 * k + 1));
  left : (k : ℕ) → l.start + l.v ≤ k → slice_index (map number l.tables) k ≡ slice_index (map number l.fn.tables) k;
}
