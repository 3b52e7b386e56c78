-- Families of which pages are listed.
use Rattle.std.specs.Prelude.{ℕ, List}
use Rattle.ls_set.specs.{Items}

-- the states among some items, in their order
pub record StateList : Type 0 where
  pub item_count : ℕ
  pub states : List Items

abbrev pub states_on : ℕ → List Items → StateList
states_on n states = record { item_count = n; states = states }
