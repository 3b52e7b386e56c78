-- Starts: all sets, a surmise function by its clauses, or a base by its sets.
use Rattle.std.specs.Prelude.{Bool, true, List, [], slice_index_or}
use Rattle.std.specs.List.{list_any, list_all}
use Rattle.ls_set.specs.{Items, is_same, is_within, items}
use Rattle.ls_theory.specs.Families.{interior}

-- no restriction; for each item in turn, its clauses; or the listed sets
pub data Start : Type 0 where
  Free : Start
  Clauses : List (List Items) → Start
  Sets : List Items → Start

-- Every set meets the free start. A set meets clauses where each of its items has a clause
-- within the set. It meets listed sets where it is the union of those within it.
abbrev pub meets : Start → Items → Bool
meets Free k = true
meets (Clauses clauses) k =
    list_all (λ q. list_any (λ c. is_within c k) (slice_index_or clauses q [])) (items k)
meets (Sets sets) k = is_same (interior sets k) k
