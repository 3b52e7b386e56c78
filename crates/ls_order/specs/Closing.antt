-- The closure of rows of lower items, one middle item after another.
use Rattle.std.specs.Prelude.{ℕ, zero, suc, ◌≡◌, if◌then◌else◌, List, map, length}
use Rattle.ls_set.specs.ItemSet.{Items, has, union}
use Rattle.ls_origins.specs.Relations.{below_of}
use Rattle.ls_order.specs.Orders.{ArePairs, has_pair}

-- a row that has the item takes what is below the item
abbrev pub joined : ℕ → Items → Items → Items
joined item below row = if has row item then union row below else row

-- each row does
abbrev pub through : ℕ → List Items → List Items
through item rows = map (joined item (below_of rows item)) rows

-- the rows after the first m items in turn
abbrev pub closed : ℕ → List Items → List Items
closed zero rows = rows
closed (suc m) rows = through m (closed m rows)

-- the rows of pairs: for each of n items in turn the lower items of the pairs in which it is higher
pub record AreRows (n : ℕ) (pairs : List (ℕ × ℕ)) (rows : List Items) : Type 0 where
  pub each_item : length rows ≡ n
  pub same : (low high : ℕ) → has (below_of rows high) low ≡ has_pair pairs low high

-- they are the rows of some pairs of the n items
pub record ArePaired (n : ℕ) (rows : List Items) : Type 0 where
  pub pairs : List (ℕ × ℕ)
  pub small : ArePairs n pairs
  pub are_rows : AreRows n pairs rows
