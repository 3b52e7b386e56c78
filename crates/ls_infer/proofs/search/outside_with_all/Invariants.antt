use Rattle.ls_infer.proofs.Vocabulary.{◌+◌, ◌≡◌, ◌≤◌, IsWithin, Items, full, len, minus, outside_of}
use Rattle.ls_set.specs.{union}
use Rattle.ls_infer.proofs.search.outside_with_all.Given as goal

-- outside the closure with the items that went
abbrev pub invariant-loop-item : goal.invariant-loop-item
invariant-loop-item g l = record {
  left : IsWithin l.left l.fn.more;
  within : IsWithin l.outside (full (g.I.Interior.item_count l.f));
  value : (a : Items) → l.fn.outside ≡ outside_of (g.I.Interior.item_count l.f) (g.I.Interior.members l.f) a → l.outside ≡ outside_of (g.I.Interior.item_count l.f) (g.I.Interior.members l.f) (union a (minus l.fn.more l.left));
  cost : l.steps + len l.left ≤ l.fn.steps + len l.fn.more;
}

abbrev pub decreases-loop-item : goal.decreases-loop-item
decreases-loop-item g l = len l.left
