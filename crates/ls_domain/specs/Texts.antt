-- The texts of items and sets, where a list of names gives the items.
use Rattle.std.specs.Prelude.{ℕ, List, [], ◌∷◌, ◌++◌, map, filter, length, slice_index_or}
use Rattle.std.specs.List.{join_with_byte}
use Rattle.ls_set.specs.{Items, has, numbers_from}
use Rattle.ls_cutting.specs.{Text}

-- the name of an item, which is empty where the item has none
abbrev pub name_of : List Text → ℕ → Text
name_of names i = slice_index_or names i []

-- the names of those items that the set has, in the order of items
unfoldable pub names_of_set : List Text → Items → List Text
names_of_set names s = map (name_of names) (filter (has s) (numbers_from 0 (length names)))

-- those names, joined by single spaces
abbrev pub joined_names : List Text → Items → Text
joined_names names s = join_with_byte 32 (names_of_set names s)

-- a set: its names within braces
abbrev pub set_text : List Text → Items → Text
set_text names s = 123 ∷ joined_names names s ++ 125 ∷ []

-- two fringes as words: the names of the inner one's items, a bar, and the names of the outer one's
abbrev pub fringe_words : List Text → Items → Items → List Text
fringe_words names inner outer = names_of_set names inner ++ (124 ∷ []) ∷ names_of_set names outer
