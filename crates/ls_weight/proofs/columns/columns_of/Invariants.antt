use Rattle.ls_weight.proofs.Vocabulary.{◌%◌, ◌*◌, ◌/◌, ◌<◌, ◌≡◌, ℕ, length, slice_index}
use Rattle.ls_weight.proofs.Columned.{IsWord}
use Rattle.ls_weight.proofs.columns.columns_of.Given as goal

abbrev pub invariant-loop-at : goal.invariant-loop-at
invariant-loop-at l = record {
  long : length l.columns.items ≡ l.at;
  words : (k : ℕ) → k < l.at → IsWord l.bytes l.width (64 * (k % l.words)) (k / l.words) (slice_index l.columns.items k);
}
