-- A set of items for each item.
use Rattle.std.specs.Prelude.{ℕ, List, slice_index_or}
use Rattle.ls_set.specs.{Items, empty}

-- the set of an item; empty past the end of the list
abbrev pub set_at : List Items → ℕ → Items
set_at sets i = slice_index_or sets i empty
