-- Items that fall out of a set with others.
use Rattle.std.specs.Prelude.{ℕ, ◌≡◌, ◌&&◌, Bool, true, false, nat_lt, List, map, filter}
use Rattle.ls_set.specs.{Items, empty, has, is_same, meet, most_items, set_of}
use Rattle.ls_set.specs.declared.query.Query.{Query}
use Rattle.ls_theory.specs.{breaks_none}
use Rattle.ls_rules.specs.Sets.{set_at}
use Rattle.ls_columns.specs.Places.{meets}

-- the set A of the rule has an item that fell and none that is kept, and q is an item
-- that a set can have
abbrev pub falls : Items → Items → Query → Bool
falls fallen kept r =
    nat_lt r.q most_items && meets r.a fallen && is_same (meet kept r.a) empty

-- the items q of these rules: they fall too
abbrev pub fallen_by : List Query → Items → Items → Items
fallen_by rules fallen kept = set_of (map (λ r. r.q) (filter (falls fallen kept) rules))

-- a set that breaks none of the rules lacks item j where it lacks item i
abbrev pub FallsWith : List Query → ℕ → ℕ → Type 0
FallsWith rules i j = (t : Items)
    → breaks_none rules t ≡ true
    → has t i ≡ false
    → has t j ≡ false

-- each item has a set of items that fall with it; others may too
abbrev pub IsFalling : List Query → List Items → Type 0
IsFalling rules sets = (i j : ℕ) → has (set_at sets i) j ≡ true → FallsWith rules i j
