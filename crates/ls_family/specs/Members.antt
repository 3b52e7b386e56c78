-- Families of sets that are kept one by one.
use Rattle.std.specs.Prelude.{ℕ, ◌≤◌, List}
use Rattle.ls_set.specs.{IsInOrder, Items, most_items}

-- a family: how many items there are, and its sets
pub record FamilyState : Type 0 where
  pub item_count : ℕ
  pub sets : List Items

-- there are few enough items, and the sets stand in their order
pub record IsFamilyState (f : FamilyState) : Type 0 where
  pub few_items : f.item_count ≤ most_items
  pub in_order : IsInOrder f.sets
