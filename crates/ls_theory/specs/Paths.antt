-- Learning paths: the orders in which the items can be learned, one by one.
use Rattle.std.specs.Prelude.{ℕ, zero, suc, Bool, ◌&&◌, ◌==◌, List, [], ◌∷◌, map, filter}
use Rattle.std.specs.Prelude.{length, take}
use Rattle.std.specs.List.{list_all, flat_map}
use Rattle.ls_set.specs.{Items, full, is_among, is_same, items, numbers_from, set_of, without}

-- the lists of m items of s, each once, in lexicographic order: by the first item,
-- then by the same rule on the others
unfoldable pub orders_of : ℕ → Items → List (List ℕ)
orders_of zero s = [] ∷ []
orders_of (suc m) s = flat_map (λ i. map (λ rest. i ∷ rest) (orders_of m (without s i))) (items s)

-- the list has each of the n items once
abbrev pub is_order : ℕ → List ℕ → Bool
is_order n order = length order == n && is_same (set_of order) (full n)

-- each prefix of the list, as a set, is a member
abbrev pub is_path : List Items → List ℕ → Bool
is_path f order =
    list_all (λ j. is_among f (set_of (take j order))) (numbers_from 0 (suc (length order)))

-- the learning paths, in lexicographic order
unfoldable pub paths : ℕ → List Items → List (List ℕ)
paths n f = filter (is_path f) (orders_of n (full n))
