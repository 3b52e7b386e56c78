-- Blocks as contracts see them: their sets and queries, and their number.
--     choose m k      how many sets of k items m items have
--     block_sets b, block_queries b      the sets of the blocks, and their good queries,
--         in the order of queries
use Rattle.std.specs.Prelude.{ℕ, zero, suc, ◌+◌, ◌<◌, ◌≤◌, List, length}
use Rattle.ls_set.specs.{Items, most_items}
use Rattle.ls_set.specs.declared.query.Query.{Query}
use Rattle.ls_theory.specs.{BlockRange, blocks, most_sets, queries}

-- the binomial coefficient: the sets with a first item, and those without it
unfoldable pub choose : ℕ → ℕ → ℕ
choose zero zero = 1
choose zero (suc k) = 0
choose (suc m) zero = 1
choose (suc m) (suc k) = choose m k + choose m (suc k)

abbrev pub block_sets : BlockRange → List Items
block_sets b = blocks b.item_count b.largest

abbrev pub block_queries : BlockRange → List Query
block_queries b = queries b.item_count b.largest

-- blocks of some sets, and not too many
pub record AreBounded (b : BlockRange) : Type 0 where
  pub few_items : b.item_count ≤ most_items
  pub some_sizes : 0 < b.largest
  pub few_sizes : b.largest ≤ b.item_count
  pub few_sets : length (block_sets b) ≤ most_sets
