-- What words mean, where a list of names gives the items.
use Rattle.std.specs.Prelude.{ℕ, Bool, not, List, map, Option, position, bytes_eq, unwrap_or}
use Rattle.std.specs.List.{list_any}
use Rattle.ls_set.specs.{Items, set_of}
use Rattle.ls_cutting.specs.{Text}

-- whether the word is one of the names
abbrev pub is_named : List Text → Text → Bool
is_named names w = list_any (bytes_eq w) names

-- the item that has the name, if there is one
abbrev pub number_of : List Text → Text → Option ℕ
number_of names w = position (bytes_eq w) names

-- the item that has the name
abbrev pub item_of : List Text → Text → ℕ
item_of names w = unwrap_or (number_of names w) 0

-- the set of the items that have the names
abbrev pub items_of : List Text → List Text → Items
items_of names ws = set_of (map (item_of names) ws)

-- where the first of the words that names no item stands, counted from 0
abbrev pub first_unnamed : List Text → List Text → Option ℕ
first_unnamed names ws = position (λ w. not (is_named names w)) ws
