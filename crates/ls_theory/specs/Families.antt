-- Families, which are lists of distinct sets in the order; knowledge spaces,
-- interiors and closures.
use Rattle.std.specs.Prelude.{ℕ, Bool, ◌&&◌, List, [], ◌∷◌, filter}
use Rattle.std.specs.List.{list_all}
use Rattle.ls_set.specs.{Items, empty, is_among, is_within, minus, subsets, union}
use Rattle.ls_theory.specs.Words.{sublists}

-- the items in some of the sets
abbrev pub unions : List Items → Items
unions [] = empty
unions (s ∷ ss) = union s (unions ss)

-- all families on n items: the sublists of all sets
unfoldable pub families : ℕ → List (List Items)
families n = sublists (subsets n)

-- with any two members their union is one
abbrev pub is_union_closed : List Items → Bool
is_union_closed f = list_all (λ k. list_all (λ l. is_among f (union k l)) f) f

-- a space on the items of `whole`, of which its sets consist: it holds the empty set and `whole`,
-- and is closed under union
abbrev pub is_space : Items → List Items → Bool
is_space whole f = is_among f empty && is_among f whole && is_union_closed f

-- the interior of s: the union of the members within it
unfoldable pub interior : List Items → Items → Items
interior f s = unions (filter (λ k. is_within k s) f)

-- the closure of s among the items of `whole`: the complement of the interior of the complement
abbrev pub closure : Items → List Items → Items → Items
closure whole f s = minus whole (interior f (minus whole s))
