use Rattle.ls_infer.proofs.Vocabulary.{◌+◌, ◌≡◌, ◌≤◌, IsChange, IsKeptClosure, Items, List, block_before, closure, count_by, drop, find, full, images, is_within, list_all, map, block_sets, slice_get, take, true}
use Rattle.ls_infer.proofs.closures.close_again.Given as goal

-- the set at the place is the first after that of the walk; those so far are the closures after the change, those that are left are as they were; and the closure that is kept is that of its set
abbrev pub invariant-loop-place : goal.invariant-loop-place
invariant-loop-place g l = record {
  of_blocks : l.walk.blocks ≡ l.blocks;
  place : find (block_before l.walk.set) (block_sets l.blocks) ≡ slice_get (block_sets l.blocks) l.place;
  within : list_all (λ c. is_within c (full (g.I.Interior.item_count l.f))) l.closures ≡ true;
  left : drop l.place l.closures ≡ drop l.place l.initial.closures;
  made : (before : List Items) → IsChange l.change (g.I.Interior.item_count l.f) l.r before (g.I.Interior.members l.f)
      → l.initial.closures ≡ map (closure (full (g.I.Interior.item_count l.f)) before) (block_sets l.blocks)
      → l.closures ≡ images (closure (full (g.I.Interior.item_count l.f)) (g.I.Interior.members l.f)) (closure (full (g.I.Interior.item_count l.f)) before) (block_sets l.blocks) l.place;
  kept : (before : List Items) → IsChange l.change (g.I.Interior.item_count l.f) l.r before (g.I.Interior.members l.f)
      → l.initial.closures ≡ map (closure (full (g.I.Interior.item_count l.f)) before) (block_sets l.blocks)
      → IsKeptClosure l.blocks.item_count (g.I.Interior.members l.f) l.kept;
  cost : l.steps ≤ l.fn.steps + count_by (λ c. is_within l.r.a c) (take l.place l.initial.closures);
}
