use Rattle.ls_weight.proofs.Vocabulary.{◌<◌, ◌≡◌, ℕ, map, slice_index}
use Rattle.ls_weight.proofs.passes.clear.Given as goal

abbrev pub invariant-loop-i : goal.invariant-loop-i
invariant-loop-i g l = (k : ℕ) → k < l.i → slice_index (map g.T.Amount.number l.tables) k ≡ 0
