-- What is read of the value of a surmise file, step by step: whether its names are those of items,
-- and then the clauses of each item.
use Rattle.std.specs.Prelude.{ℕ, Bool, true, false, ◌&&◌, if◌then◌else◌, List, [], map, length}
use Rattle.std.specs.Prelude.{Option, Some, None, is_some, unwrap_or, option_and_then}
use Rattle.std.specs.Prelude.{Result, Ok, Err}
use Rattle.std.specs.List.{list_all}
use Rattle.std.specs.Option.{option_map_or}
use Rattle.serde_json.specs.Data.{Data, Members, no_members, member}
use Rattle.serde_json.specs.Find.{as_str, as_object, get}
use Rattle.ls_set.specs.{Items, numbers_from}
use Rattle.ls_theory.specs.declared.surmise_fault.SurmiseFault.{SurmiseFault}
use Rattle.ls_theory.specs.declared.surmise_fault.SurmiseFault.TheVariants.{BadJson, UnknownItem}
use Rattle.ls_cutting.specs.{Text}
use Rattle.ls_domain.specs.Meanings.{is_named, items_of}
use Rattle.ls_domain.specs.Texts.{name_of}
use Rattle.ls_files.specs.SurmiseFiles.{Table, read_list, is_table_named, clauses_in, table_of}

-- the set of the items that words name, where each names one
abbrev pub named_set : List Text → List Text → Option Items
named_set names ws = if list_all (is_named names) ws then Some (items_of names ws) else None

-- the set of an array of names of items
abbrev pub read_clause : List Text → Data → Option Items
read_clause names d = option_and_then (named_set names) (read_list as_str d)

-- the sets of an array of them
abbrev pub read_sets : List Text → Data → Option (List Items)
read_sets names d = read_list (read_clause names) d

-- each key is an item's name, with such an array
abbrev pub are_known : List Text → Members → Bool
are_known names no_members = true
are_known names (member k d ms) =
    is_named names k
    && is_some (read_sets names d)
    && are_known names ms

-- the same of a value; one that is no object isn't known
abbrev pub is_known : List Text → Data → Bool
is_known names d = option_map_or (are_known names) (as_object d) false

-- the clauses that stand under the name of an item
abbrev pub read_own : List Text → Data → ℕ → List Items
read_own names d q = unwrap_or (option_and_then (read_sets names) (get (name_of names q) d)) []

-- those of each item
abbrev pub read_all : List Text → Data → List (List Items)
read_all names d = map (read_own names d) (numbers_from 0 (length names))

-- ---- as they are defined

-- the clauses of a table, where all its names are those of items
abbrev pub clauses_from : List Text → Table → Result (List (List Items)) SurmiseFault
clauses_from names table =
    if is_table_named names table then Ok (clauses_in names table) else Err UnknownItem

-- the clauses of each item as they stand in a file, or the first fault of its form
abbrev pub clauses_read : List Text → List ℕ → Result (List (List Items)) SurmiseFault
clauses_read names bytes = option_map_or (clauses_from names) (table_of bytes) (Err BadJson)
