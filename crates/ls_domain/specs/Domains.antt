-- Domains: the names of the items, and how they are read from words and from a table.
use Rattle.std.specs.Prelude.{◌≡◌, ◌<◌, ◌≤◌, ℕ, ◌+◌, Bool, true, not, ◌==◌, nat_le, if◌then◌else◌}
use Rattle.std.specs.Prelude.{List, [], ◌∷◌, ◌++◌, map, length, slice_index_or, bytes_eq}
use Rattle.std.specs.Prelude.{Option, Some, None, Result, Ok, Err, ⊤}
use Rattle.std.specs.List.{IsDistinct, list_all}
use Rattle.std.specs.Option.{option_map_or}
use Rattle.csv.specs.Reading.{default_config, records, strip_bom}
use Rattle.ls_set.specs.{most_items}
use Rattle.ls_cutting.specs.{Text, is_of}
use Rattle.ls_cutting.specs.declared.kind.Kind.TheVariants.{Name}
use Rattle.ls_domain.specs.Meanings.{is_named, item_of}
use Rattle.ls_domain.specs.declared.domain_fault.DomainFault.{DomainFault}
use Rattle.ls_domain.specs.declared.domain_fault.DomainFault.TheVariants.{NoItems, BadCsv, BadName}
use Rattle.ls_domain.specs.declared.domain_fault.DomainFault.TheVariants.{Repeat, TooMany, Memory}

-- a name of the command language
abbrev pub is_name : Text → Bool
is_name w = is_of Name w

-- names of which no two are the same, at most as many as there are places
pub record AreNames (names : List Text) : Type 0 where
  pub few : length names ≤ most_items
  pub named : list_all is_name names ≡ true
  pub distinct : IsDistinct bytes_eq names

-- a domain: at least one such name
pub record IsDomain (names : List Text) : Type 0 where
  pub some : 0 < length names
  pub are_names : AreNames names

-- ---- reading

-- the first field of a row, or none where its record has another number of fields
-- than the first one
abbrev pub FirstField : Type 0
FirstField = Option Text

-- what is wrong with a name that comes after the names of the earlier rows: it is no name,
-- or else an earlier row has it, or else there are too many. Rows are counted from 1.
abbrev pub name_fault : List Text → Text → Option DomainFault
name_fault earlier w =
    if not (is_name w) then Some (BadName (length earlier + 1))
    else if is_named earlier w then Some (Repeat (length earlier + 1) (item_of earlier w + 1))
    else if nat_le most_items (length earlier) then Some TooMany
    else None

-- the earlier names and then those of the rows, or the fault of the first row that has one
unfoldable pub names_from : List Text → List FirstField → Result (List Text) DomainFault
names_from earlier [] = Ok earlier
names_from earlier (None ∷ rows) = Err (BadCsv (length earlier + 1))
names_from earlier (Some w ∷ rows) =
    option_map_or (λ fault. Err fault) (name_fault earlier w) (names_from (earlier ++ w ∷ []) rows)

-- the names of rows, of which there is at least one
abbrev pub names_of : List FirstField → Result (List Text) DomainFault
names_of [] = Err NoItems
names_of (row ∷ rows) = names_from [] (row ∷ rows)

-- each word is a row
abbrev pub names_of_words : List Text → Result (List Text) DomainFault
names_of_words ws = names_of (map Some ws)

-- the records of a table with no header row, after one byte order mark at its front
abbrev pub table_records : List ℕ → List (List Text)
table_records bytes = records default_config (strip_bom bytes)

abbrev pub first_field : List Text → Text
first_field fields = slice_index_or fields 0 []

-- the first field of a record, where records have so many fields
abbrev pub even_field : ℕ → List Text → FirstField
even_field width fields = if length fields == width then Some (first_field fields) else None

-- how many fields the first record has
abbrev pub field_count : List (List Text) → ℕ
field_count table = length (slice_index_or table 0 [])

abbrev pub first_fields : List (List Text) → List FirstField
first_fields table = map (even_field (field_count table)) table

-- the first field of each record is a name, and further fields are passed over
abbrev pub names_of_table : List ℕ → Result (List Text) DomainFault
names_of_table bytes = names_of (first_fields (table_records bytes))

-- ---- faults

-- the fault is that of the reading, unless memory ran out
abbrev pub IsDomainFault : Result (List Text) DomainFault → DomainFault → Type 0
IsDomainFault reading (Memory e) = ⊤
IsDomainFault reading fault = reading ≡ Err fault

-- the same of one name
abbrev pub IsNameFault : Option DomainFault → DomainFault → Type 0
IsNameFault found (Memory e) = ⊤
IsNameFault found fault = found ≡ Some fault
