-- Names of items: in quotes, and in the order of their bytes.
use Rattle.std.specs.Prelude.{ℕ, if◌then◌else◌, List, [], ◌∷◌, length}
use Rattle.std.specs.Ordering.{nat_cmp, is_lt}
use Rattle.std.specs.Cmp.Lexicographic.{slice_cmp}
use Rattle.json.specs.Print.{quoted}
use Rattle.ls_set.specs.{numbers_from}
use Rattle.ls_cutting.specs.{Text}
use Rattle.ls_domain.specs.Texts.{name_of}

abbrev pub quoted_name : List Text → ℕ → Text
quoted_name names i = quoted (name_of names i)

-- an item among others in order: it comes before the first whose name is greater
abbrev pub insert_by_name : List Text → ℕ → List ℕ → List ℕ
insert_by_name names i [] = i ∷ []
insert_by_name names i (j ∷ js) =
    if is_lt (slice_cmp nat_cmp (name_of names i) (name_of names j)) then i ∷ j ∷ js
    else j ∷ insert_by_name names i js

-- some items in the order of their names
unfoldable pub by_name : List Text → List ℕ → List ℕ
by_name names [] = []
by_name names (i ∷ is) = insert_by_name names i (by_name names is)

-- all items in that order
abbrev pub items_by_name : List Text → List ℕ
items_by_name names = by_name names (numbers_from 0 (length names))
