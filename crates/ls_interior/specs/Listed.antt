-- What contracts see of a family whose sets are listed.
use Rattle.std.specs.Prelude.{ℕ, List}
use Rattle.std.specs.Coded.{Coded, prop_coded}
use Rattle.ls_set.specs.{Items}
use Rattle.ls_laws.specs.Families.{IsFamily, IsFamily-prop}

-- a number of items, and a list of sets that is a family on them
pub record ListedFamily : Type 0 where
  pub item_count : ℕ
  pub members : List Items
  pub is_family : IsFamily item_count members

-- that a list is a family tells no two values apart
abbrev pub family_coded : (n : ℕ) (f : List Items) → Coded (IsFamily n f)
family_coded n f = prop_coded (IsFamily-prop n f)
