-- What contracts see of a relation.
use Rattle.std.specs.Prelude.{ℕ, ◌≤◌, List}
use Rattle.ls_set.specs.ItemSet.{Items, most_items}
use Rattle.ls_order.specs.Orders.{IsOrder}

-- a number of items, and for each in turn the items below it and itself
pub record RelationState : Type 0 where
  pub item_count : ℕ
  pub below : List Items

-- it is a partial order, on no more items than a set has places
pub record IsRelation (r : RelationState) : Type 0 where
  pub few : r.item_count ≤ most_items
  pub order : IsOrder r.item_count r.below
