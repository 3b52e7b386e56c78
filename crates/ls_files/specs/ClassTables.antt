-- Class tables: a first record that names the items, and then one record for each pupil.
-- Records are counted from 1.
use Rattle.std.specs.Prelude.{ℕ, ◌+◌, Bool, not, ◌&&◌, ◌||◌, ◌==◌, nat_lt, if◌then◌else◌}
use Rattle.std.specs.Prelude.{List, [], ◌∷◌, ◌++◌, map, length, bytes_eq, codes}
use Rattle.std.specs.Prelude.{Option, Some, None, option_map, Result, Ok, Err}
use Rattle.std.specs.List.{list_all}
use Rattle.std.specs.Option.{option_map_or}
use Rattle.ls_set.specs.{Items, empty, full, is_same, with}
use Rattle.ls_cutting.specs.{Text}
use Rattle.ls_domain.specs.Meanings.{is_named, item_of, items_of}
use Rattle.ls_domain.specs.Domains.{is_name, table_records}
use Rattle.ls_theory.specs.{Row}

-- the most pupils of a class
abbrev pub most_class_pupils : ℕ
most_class_pupils = 4096

-- ---- the first record

-- each item's name once, in any order: as many words as there are items, each an item's name,
-- which name all items together
abbrev pub name_each_once : List Text → List Text → Bool
name_each_once names ws =
    (length ws == length names)
    && list_all (is_named names) ws
    && is_same (items_of names ws) (full (length names))

-- the items of the columns after the first one, if these have each item's name once
unfoldable pub columns_of : List Text → List Text → Option (List ℕ)
columns_of names [] = None
columns_of names (corner ∷ ws) =
    if name_each_once names ws then Some (map (item_of names) ws) else None

-- ---- the record of a pupil

-- `1` marks an item that the pupil gets right
abbrev pub is_right : Text → Bool
is_right mark = bytes_eq mark (codes "1")

-- `0` marks an item that it gets wrong
abbrev pub is_wrong : Text → Bool
is_wrong mark = bytes_eq mark (codes "0")

-- no other text is a mark
abbrev pub is_mark : Text → Bool
is_mark mark = is_right mark || is_wrong mark

-- the items of the columns that are marked as right
abbrev pub right_of : List ℕ → List Text → Items
right_of [] marks = empty
right_of (i ∷ columns) [] = empty
right_of (i ∷ columns) (mark ∷ marks) =
    if is_right mark then with (right_of columns marks) i else right_of columns marks

-- the same, if there is one mark for each column
abbrev pub marked : List ℕ → List Text → Option Items
marked columns marks =
    if (length marks == length columns) && list_all is_mark marks
    then Some (right_of columns marks)
    else None

-- whether one more pupil can have the name: no earlier one has it, and there is a place left
abbrev pub is_next_name : List Row → Text → Bool
is_next_name earlier name =
    is_name name
    && not (is_named (map (λ row. row.name) earlier) name)
    && nat_lt (length earlier) most_class_pupils

-- the row of the next pupil, if the record is such a name and then such marks
unfoldable pub next_row : List ℕ → List Row → List Text → Option Row
next_row columns earlier [] = None
next_row columns earlier (name ∷ marks) =
    if is_next_name earlier name
    then option_map (λ right. record { name = name; right = right }) (marked columns marks)
    else None

-- ---- the table

-- the earlier rows and then those of further records; or which record is the first that gives
-- no row
unfoldable pub rows_from : List ℕ → List Row → List (List Text) → Result (List Row) ℕ
rows_from columns earlier [] = Ok earlier
rows_from columns earlier (fields ∷ records) =
    option_map_or
    (λ row. rows_from columns (earlier ++ row ∷ []) records)
    (next_row columns earlier fields)
    (Err (length earlier + 2))

-- the class of records, of which the first names the items; or which one is the first bad one
unfoldable pub class_in : List Text → List (List Text) → Result (List Row) ℕ
class_in names [] = Err 1
class_in names (header ∷ records) =
    option_map_or (λ columns. rows_from columns [] records) (columns_of names header) (Err 1)

-- the class of a table, or which record is the first bad one
unfoldable pub class_of : List Text → List ℕ → Result (List Row) ℕ
class_of names bytes = class_in names (table_records bytes)
