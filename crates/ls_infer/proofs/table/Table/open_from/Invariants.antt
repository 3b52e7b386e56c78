use Rattle.ls_infer.proofs.Vocabulary.{◌&&◌, ◌≡◌, block_before, find, is_open_in, block_queries, block_sets, slice_get}
use Rattle.ls_infer.proofs.table.Table.open_from.Given as goal

-- the set at the place is the first after that of the walk, and no open query was passed
abbrev pub invariant-loop-place : goal.invariant-loop-place
invariant-loop-place l = record {
  of_blocks : l.walk.blocks ≡ l.self.table.blocks;
  place : find (block_before l.walk.set) (block_sets l.self.table.blocks) ≡ slice_get (block_sets l.self.table.blocks) l.place;
  passed : find (λ s. block_before l.fn.walk.set s.a && is_open_in l.self.table s) (block_queries l.self.table.blocks) ≡ find (λ s. block_before l.walk.set s.a && is_open_in l.self.table s) (block_queries l.self.table.blocks);
}
