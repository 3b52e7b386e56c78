use Rattle.ls_infer.proofs.Vocabulary.{◌≡◌, IsWithin, Items, List, ℕ, blocks, closure, full, has, len, map, single, true}
use Rattle.ls_infer.proofs.entailing.items_entailing.Given as goal

-- those that were found are of the set, and have q in their closures
abbrev pub invariant-loop-item : goal.invariant-loop-item
invariant-loop-item l = record {
  left : IsWithin l.left l.fn.among;
  part : IsWithin l.entailing l.fn.among;
  reach : (n k : ℕ) (f : List Items) → IsWithin l.fn.among (full n) → l.closures ≡ map (closure (full n) f) (blocks n k) → (i : ℕ) → has l.entailing i ≡ true → has (closure (full n) f (single i)) l.q ≡ true;
}

abbrev pub decreases-loop-item : goal.decreases-loop-item
decreases-loop-item l = len l.left
