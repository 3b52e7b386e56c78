-- Unions of the sets that stand soon after a set of a list.
use Rattle.std.specs.Prelude.{ℕ, ◌+◌, Bool, List, length, map, take, drop, slice_index_or}
use Rattle.std.specs.List.{range_with_len}
use Rattle.ls_set.specs.{Items, empty, is_same}
use Rattle.ls_theory.specs.{interior}

-- the sets after place i, at most 32 of them
abbrev pub next_sets : List Items → ℕ → List Items
next_sets f i = take 32 (drop (i + 1) f)

-- the set at place i is the union of those of the next sets that lie within it
abbrev pub is_union_of_next : List Items → ℕ → Bool
is_union_of_next f i = let k = slice_index_or f i empty in is_same (interior (next_sets f i) k) k

-- the same of each place
abbrev pub unions_of_next : List Items → List Bool
unions_of_next f = map (is_union_of_next f) (range_with_len 0 (length f))
