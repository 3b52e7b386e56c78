use Rattle.ls_weight.proofs.Vocabulary.{◌*◌, ◌+◌, ◌-◌, ◌<◌, ◌≡◌, IsRest, ℕ, agrees_in, cell_of, length, map, row_at, slice_index, table_cells, true}
use Rattle.ls_weight.proofs.Passing.{AreWeighed}
use Rattle.ls_weight.proofs.passes.weigh_agreeing.Given as goal

-- the states before this one are weighed, and this one agrees
abbrev pub invariant-loop-i : goal.invariant-loop-i
invariant-loop-i g l = record {
  weighed : AreWeighed (λ k. agrees_in (row_at l.bytes l.width k) l.reply) l.ratio.a l.fn.weights l.weights l.i;
  cells : (k v : ℕ) → k < l.width → v < table_cells → slice_index (map g.T.Amount.number l.tables) (table_cells * k + v) ≡ cell_of l.bytes l.width l.reply l.fn.weights l.i k v;
  here : l.i < length l.fn.weights → agrees_in (row_at l.bytes l.width l.i) l.reply ≡ true;
  digits : l.i < length l.fn.weights → IsRest l.column l.reply.right l.i l.rest;
}

abbrev pub decreases-loop-i : goal.decreases-loop-i
decreases-loop-i g l = length l.weights - l.i
