use Rattle.ls_weight.proofs.Vocabulary.{◌*◌, ◌<◌, ◌≡◌, ◌≤◌, ℕ, agrees_in, cond, row_at, slice_index}
use Rattle.ls_weight.proofs.passes.weigh_others.Given as goal

abbrev pub invariant-loop-i : goal.invariant-loop-i
invariant-loop-i l = record {
  done : (i : ℕ) → i < l.i → slice_index l.weights i ≡ slice_index l.fn.weights i * cond (agrees_in (row_at l.bytes l.width i) l.reply) 1 l.ratio.b;
  left : (i : ℕ) → l.i ≤ i → slice_index l.weights i ≡ slice_index l.fn.weights i;
}
