use Rattle.ls_infer.proofs.Vocabulary.{◌&&◌, ◌*◌, ◌+◌, ◌≡◌, ◌≤◌, IsSearch, ℕ, block_before, false, find, is_open_by, block_queries, block_sets, slice_get}
use Rattle.ls_infer.proofs.Looking.{up_to}
use Rattle.ls_infer.proofs.search.find_after.Given as goal

-- the set that many places after the first is the next after that of the walk; no open query was passed, and what it cost
abbrev pub invariant-loop-passed : goal.invariant-loop-passed
invariant-loop-passed g l = record {
  of_blocks : l.walk.blocks ≡ l.fn.blocks;
  search : IsSearch (g.I.Interior.item_count l.f) (g.I.Interior.members l.f) l.search;
  place : (i : ℕ) × (find (block_before l.walk.set) (block_sets l.fn.blocks) ≡ slice_get (block_sets l.fn.blocks) (i + l._passed));
  passed : find (λ s. block_before l.fn.walk.set s.a && is_open_by (g.I.Interior.item_count l.f) (g.I.Interior.members l.f) l.standing s) (block_queries l.fn.blocks)
      ≡ find (λ s. block_before l.walk.set s.a && is_open_by (g.I.Interior.item_count l.f) (g.I.Interior.members l.f) l.standing s) (block_queries l.fn.blocks);
  after : block_before l.walk.set l.fn.walk.set ≡ false;
  cost : l.steps + (l.fn.blocks.largest + 1) ≤ l.fn.steps + (l.fn.blocks.largest + 1) * up_to l.fn.blocks l.fn.walk.set l.walk.set;
}
