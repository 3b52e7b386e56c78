use Rattle.ls_drill.proofs.Vocabulary.{◌<◌, ◌≡◌, ℕ, drop, empty, get_or, has, length, has_chain}
use Rattle.ls_drill.proofs.closing.put_all.Given as goal

abbrev pub invariant-loop-place : goal.invariant-loop-place
invariant-loop-place l = (a q : ℕ) → a < length l.after → has (get_or l.after a empty) q ≡ has_chain (drop l.place l.pairs) a q
