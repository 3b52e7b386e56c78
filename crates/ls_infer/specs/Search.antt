-- A search for open queries where no closures are kept.
--     outside_of n f a      the items outside the closure of a
--     is_open_by n f ss r      no closure in the family f decides the query r,
--         and no standing No of which ss are kept
--     looked_at b first found      how many block sets come from the first on, up to that
--         of the query that was found; or to the last, where none was
use Rattle.std.specs.Prelude.{ℕ, Bool, true, not, ◌&&◌, ◌≤◌, ◌≡◌, List, Option, count_by}
use Rattle.std.specs.List.{list_any}
use Rattle.std.specs.Option.{option_map_or}
use Rattle.ls_set.specs.{Items, full, has, minus, most_items}
use Rattle.ls_set.specs.declared.query.Query.{Query}
use Rattle.ls_theory.specs.{BlockRange, block_before, closure, interior}
use Rattle.ls_query.specs.Blocks.{block_sets}
use Rattle.ls_infer.specs.declared.search.Outside.{Outside}
use Rattle.ls_infer.specs.declared.search.Search.{Search}
use Rattle.ls_infer.specs.declared.standing_no.StandingNo.{StandingNo}
use Rattle.ls_infer.specs.Tables.{forces}

abbrev pub outside_of : ℕ → List Items → Items → Items
outside_of n f a = interior f (minus (full n) a)

abbrev pub is_open_by : ℕ → List Items → List StandingNo → Query → Bool
is_open_by n f ss r = not (has (closure (full n) f r.a) r.q) && not (list_any (forces r) ss)

-- o has the set a, with the items outside its closure, of n items
pub record IsOutside (n : ℕ) (f : List Items) (a : Items) (o : Outside) : Type 0 where
  pub few : n ≤ most_items
  pub set : o.set ≡ a
  pub items : o.items ≡ outside_of n f a

-- what a search keeps of n items: two sets with what is outside their closures
pub record IsSearch (n : ℕ) (f : List Items) (s : Search) : Type 0 where
  pub first : IsOutside n f s.first.set s.first
  pub others : IsOutside n f s.others.set s.others

abbrev pub is_from : Option Items → Items → Bool
is_from first a = option_map_or (λ b. not (block_before a b)) first true

abbrev pub is_up_to : Option Query → Items → Bool
is_up_to found a = option_map_or (λ r. not (block_before r.a a)) found true

abbrev pub looked_at : BlockRange → Option Items → Option Query → ℕ
looked_at b first found = count_by (λ a. is_from first a && is_up_to found a) (block_sets b)
