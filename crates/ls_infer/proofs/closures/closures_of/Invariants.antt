use Rattle.ls_infer.proofs.Vocabulary.{◌+◌, ◌≡◌, ◌≤◌, IsKeptClosure, block_before, closure, find, full, map, block_sets, slice_get, take}
use Rattle.ls_infer.proofs.closures.closures_of.Given as goal

-- the closures of the sets so far; the set at the place is the first after that of the walk; the closure that is kept is that of its set; and each was one step at most
abbrev pub invariant-loop-place : goal.invariant-loop-place
invariant-loop-place g l = record {
  list : l.closures.items ≡ map (closure (full (g.I.Interior.item_count l.f)) (g.I.Interior.members l.f)) (take l._place (block_sets l.blocks));
  of_blocks : l.walk.blocks ≡ l.blocks;
  place : find (block_before l.walk.set) (block_sets l.blocks) ≡ slice_get (block_sets l.blocks) l._place;
  kept : IsKeptClosure l.blocks.item_count (g.I.Interior.members l.f) l.kept;
  cost : l.steps ≤ l.fn.steps + l._place;
}
