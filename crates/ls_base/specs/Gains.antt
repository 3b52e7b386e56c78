-- What the base after a Yes gains, of the base sets that break the query and those that stay.
use Rattle.std.specs.Prelude.{ℕ, zero, suc, Bool, not, ◌&&◌, List, [], ◌∷◌, ◌++◌, map, filter, min}
use Rattle.std.specs.List.{list_any}
use Rattle.ls_set.specs.{Items, has, len, minus}
use Rattle.ls_laws.specs.Spans.{is_proper, joins}
use Rattle.ls_laws.specs.LeastSets.{having, has_none_within}
use Rattle.ls_laws.specs.Spans.{union_below}
use Rattle.ls_base.specs.declared.left.Broken.{Broken}

-- the set, with those of its items that no set of the list below it has
abbrev pub broken_in : List Items → Items → Broken
broken_in g k = record { set = k; items = minus k (union_below g k) }

-- those that are atoms at the item
abbrev pub broken_at : ℕ → List Broken → List Items
broken_at i broken = map (λ b. b.set) (filter (λ b. has b.items i) broken)

-- the least number of items of a set of the list, or `most` where that is less
abbrev pub least_size : ℕ → List Items → ℕ
least_size most [] = most
least_size most (k ∷ ks) = least_size (min most (len k)) ks

-- within k lies no set of `staying`, and no other join of a set of `sets` with one of `near`
abbrev pub is_gained : List Items → List Items → List Items → Items → Bool
is_gained staying sets near k =
    has_none_within staying k && not (list_any (λ l. is_proper l k) (joins sets near))

-- the joins, of a set that is an atom at the item with one of `near`, within which no other lies
-- and no set with the item that stays
abbrev pub gained_at : List Items → List Broken → List Items → ℕ → List Items
gained_at staying broken near i =
    let sets = broken_at i broken in
    filter (is_gained (having i staying) sets near) (joins sets near)

-- what is gained at each of the items below n
abbrev pub gained_below : List Items → List Broken → List Items → ℕ → List Items
gained_below staying broken near zero = []
gained_below staying broken near (suc n) =
    gained_below staying broken near n ++ gained_at staying broken near n
