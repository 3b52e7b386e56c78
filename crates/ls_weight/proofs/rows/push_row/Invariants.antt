use Rattle.ls_weight.proofs.Vocabulary.{◌*◌, ◌+◌, ◌<◌, ◌≡◌, ℕ, drop, has, has_in, length, take}
use Rattle.ls_weight.proofs.rows.push_row.Given as goal

abbrev pub invariant-loop-g : goal.invariant-loop-g
invariant-loop-g l = record {
  long : length l.bytes.items ≡ length l.fn.bytes.items + l.g;
  before : take (length l.fn.bytes.items) l.bytes.items ≡ l.fn.bytes.items;
  row : (q : ℕ) → q < 8 * l.g → has_in (drop (length l.fn.bytes.items) l.bytes.items) q ≡ has l.state q;
}
