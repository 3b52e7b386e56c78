-- Sets by their sizes, and by their least items.
use Rattle.std.specs.Prelude.{ℕ, ◌≡◌, ◌≤◌, ◌==◌, Bool, false, List, [], ◌∷◌, length, slice_get}
use Rattle.std.specs.Prelude.{Some, Vec}
use Rattle.std.specs.List.{AllByRecursion}
use Rattle.std.specs.Option.{option_map_or}
use Rattle.std.specs.declared.alloc.Global.{Global}
use Rattle.ls_set.specs.{Items, least, len, most_items}

-- no set of the list has more items than a later one
abbrev pub Rises : List Items → Type 0
Rises [] = Unit {0}
Rises (k ∷ ks) = AllByRecursion (λ l. len k ≤ len l) ks × Rises ks

-- i is the least item of the set
abbrev pub begins_at : ℕ → Items → Bool
begins_at i k = option_map_or (λ j. j == i) (least k) false

-- a list for each item, which has no set
pub record AreEmpty (groups : List (Vec Items Global)) : Type 0 where
  pub many : length groups ≡ most_items
  pub none : (i : ℕ) (v : Vec Items Global) → slice_get groups i ≡ Some v → v.items ≡ []
