use Rattle.ls_weight.proofs.Vocabulary.{◌*◌, ◌+◌, ◌<◌, ◌≡◌, ◌≤◌, ℕ, cond, eqb, map, slice_index, table_cells}
use Rattle.ls_weight.proofs.passes.add_weight.Given as goal

-- the groups before this one have the weight
abbrev pub invariant-loop-g : goal.invariant-loop-g
invariant-loop-g g l = let number = g.T.Amount.number in record {
  done : (k v : ℕ) → k < l.g → v < table_cells → slice_index (map number l.tables) (table_cells * k + v) ≡ slice_index (map number l.fn.tables) (table_cells * k + v) + cond (eqb (slice_index l.row k) v) (number l.weight) 0;
  left : (k v : ℕ) → l.g ≤ k → v < table_cells → slice_index (map number l.tables) (table_cells * k + v) ≡ slice_index (map number l.fn.tables) (table_cells * k + v);
}
