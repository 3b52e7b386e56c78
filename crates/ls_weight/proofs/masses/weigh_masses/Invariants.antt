use Rattle.ls_weight.proofs.Vocabulary.{◌%◌, ◌*◌, ◌+◌, ◌-◌, ◌/◌, ◌<◌, ◌≡◌, ◌≤◌, ℕ, cells_with, length, map, row_at, slice_index, table_cells}
use Rattle.ls_weight.proofs.Folding.{IsFolded}
use Rattle.ls_weight.proofs.masses.weigh_masses.Given as goal

-- the masses before this one are up to date; its group's table is folded as often as items of the
-- group were, and the tables behind are as they were
abbrev pub invariant-loop-q : goal.invariant-loop-q
invariant-loop-q g l = let number = g.T.Amount.number in record {
  done : (q : ℕ) → q < l.q → slice_index l.masses q ≡ l.ratio.b * slice_index l.fn.masses q + (l.ratio.a - l.ratio.b) * cells_with (row_at (map number l.fn.tables) table_cells (q / 8)) (q % 8);
  left : (q : ℕ) → l.q ≤ q → slice_index l.masses q ≡ slice_index l.fn.masses q;
  folded : l.q < length l.fn.masses → IsFolded (l.q % 8) (map number l.tables) (table_cells * (l.q / 8)) (row_at (map number l.fn.tables) table_cells (l.q / 8));
  behind : (k : ℕ) → table_cells * (l.q / 8 + 1) ≤ k → slice_index (map number l.tables) k ≡ slice_index (map number l.fn.tables) k;
}
