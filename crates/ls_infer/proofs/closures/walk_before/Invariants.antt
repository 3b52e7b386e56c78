use Rattle.ls_infer.proofs.Vocabulary.{◌≡◌, block_before, find, block_sets, slice_get}
use Rattle.ls_infer.proofs.closures.walk_before.Given as goal

-- the set at the place is the first after that of the walk
abbrev pub invariant-loop-passed : goal.invariant-loop-passed
invariant-loop-passed l = record {
  of_blocks : l.walk.blocks ≡ l.fn.blocks;
  place : find (block_before l.walk.set) (block_sets l.fn.blocks) ≡ slice_get (block_sets l.fn.blocks) l._passed;
}
