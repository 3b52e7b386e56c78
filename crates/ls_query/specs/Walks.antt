-- A walk through the sets of blocks. A set is told by its greatest item and the others.
--     topped others end      the others with the item below end; where end is 0, the others alone
use Rattle.std.specs.Prelude.{ℕ, zero, suc, ◌+◌, ◌<◌, ◌≤◌, ◌≡◌, true}
use Rattle.ls_set.specs.{Items, has, len, most_items, with}
use Rattle.ls_theory.specs.{BlockRange}

-- the blocks, the set that was come to, and this set without its greatest item
pub record Walked : Type 0 where
  pub blocks : BlockRange
  pub set : Items
  pub others : Items

abbrev pub topped : Items → ℕ → Items
topped others zero = others
topped others (suc i) = with others i

-- the items below end are of the blocks, the others are below the greatest, and they are fewer
-- than a set of the blocks may have
pub record IsWalk (b : BlockRange) (others : Items) (end : ℕ) : Type 0 where
  pub few : b.item_count ≤ most_items
  pub sizes : b.largest ≤ b.item_count
  pub within : end ≤ b.item_count
  pub below : (i : ℕ) → has others i ≡ true → i + 1 < end
  pub size : len others < b.largest
