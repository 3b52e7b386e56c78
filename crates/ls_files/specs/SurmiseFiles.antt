-- Surmise files: an object whose keys are the items' names, and whose values are arrays of clauses;
-- a clause is an array of names.
use Rattle.std.specs.Prelude.{ℕ, Bool, ◌&&◌, nat_lt, if◌then◌else◌, List, [], ◌∷◌, map, filter}
use Rattle.std.specs.Prelude.{length, bytes_eq, Option, Some, None, option_map, option_and_then}
use Rattle.std.specs.Prelude.{Result, Ok, Err, ⊤, ◌≡◌}
use Rattle.std.specs.List.{list_all}
use Rattle.std.specs.Option.{option_map_or, option_or}
use Rattle.std.specs.Map.{lookup}
use Rattle.std.specs.Str.{is_utf8}
use Rattle.serde_json.specs.Data.{Data, string, array, object, Items as Values, no_items, item}
use Rattle.serde_json.specs.Data.{Members, no_members, member, put}
use Rattle.serde_json.specs.View.{items_of as values_of}
use Rattle.serde_json.specs.Find.{as_str, as_array, as_object}
use Rattle.serde_json.specs.Read.{read}
use Rattle.serde_json.specs.Written.{compact_text}
use Rattle.ls_set.specs.{Items, is_among, subsets}
use Rattle.ls_theory.specs.{all_clauses, flaw, most_base_sets}
use Rattle.ls_theory.specs.declared.surmise_fault.SurmiseFault.{SurmiseFault}
use Rattle.ls_theory.specs.declared.surmise_fault.SurmiseFault.TheVariants.{BadJson, UnknownItem}
use Rattle.ls_theory.specs.declared.surmise_fault.SurmiseFault.TheVariants.{NoClause, Reflexive}
use Rattle.ls_theory.specs.declared.surmise_fault.SurmiseFault.TheVariants.{NotClosed, Comparable}
use Rattle.ls_theory.specs.declared.surmise_fault.SurmiseFault.TheVariants.{Wide, Memory}
use Rattle.ls_cutting.specs.{Text}
use Rattle.ls_domain.specs.Meanings.{is_named, items_of}
use Rattle.ls_domain.specs.Texts.{names_of_set}

-- ---- the table of a file

-- keys, each with its clauses, which are lists of names
abbrev pub Table : Type 0
Table = List (Text × List (List Text))

-- each of the values
abbrev pub read_each : {X : Type 0} → (Data → Option X) → Values → Option (List X)
read_each f no_items = Some []
read_each f (item d ds) = option_and_then (λ x. option_map (λ xs. x ∷ xs) (read_each f ds)) (f d)

-- the values of an array, where each can be read
abbrev pub read_list : {X : Type 0} → (Data → Option X) → Data → Option (List X)
read_list f d = option_and_then (read_each f) (as_array d)

-- each of the members, with its key
abbrev pub read_members : {X : Type 0} → (Data → Option X) → Members → Option (List (Text × X))
read_members f no_members = Some []
read_members f (member k d ms) =
    option_and_then (λ x. option_map (λ xs. (k, x) ∷ xs) (read_members f ms)) (f d)

-- an array of arrays of texts
abbrev pub read_clauses : Data → Option (List (List Text))
read_clauses d = read_list (read_list as_str) d

-- an object of them
abbrev pub read_table : Data → Option Table
read_table d = option_and_then (read_members read_clauses) (as_object d)

-- the value that the bytes are: bytes that are no UTF-8 are none
abbrev pub value_of : List ℕ → Option Data
value_of bytes = if is_utf8 bytes then read bytes else None

-- the table of the bytes of a file, if they are such an object
unfoldable pub table_of : List ℕ → Option Table
table_of bytes = option_and_then read_table (value_of bytes)

-- ---- the surmise function of a table

-- each name in the clauses is an item's
abbrev pub are_named : List Text → List (List Text) → Bool
are_named names clauses = list_all (list_all (is_named names)) clauses

-- each key is an item's name, and so is each name in a clause
unfoldable pub is_table_named : List Text → Table → Bool
is_table_named names table = list_all (λ row. is_named names row.0 && are_named names row.1) table

-- what stands under a key
abbrev pub row_under : {X : Type 0} → List (Text × List X) → Text → List X
row_under table w = option_map_or (λ row. row) (lookup (bytes_eq w) table) []

-- the clauses of each item in turn, as they stand in the table
unfoldable pub clauses_in : List Text → Table → List (List Items)
clauses_in names table = map (λ w. map (items_of names) (row_under table w)) names

-- the sets of n items that are among some sets: those in the order, each once
abbrev pub in_order : ℕ → List Items → List Items
in_order n sets = filter (is_among sets) (subsets n)

-- how many distinct clauses there are, where these are more than a base may have sets
abbrev pub wide : ℕ → List (List Items) → Option SurmiseFault
wide n clauses =
    let count = length (in_order n (all_clauses clauses)) in
    if nat_lt most_base_sets count then Some (Wide count) else None

-- the clauses of each item in order, if they are a surmise function and are not too many
unfoldable pub surmise_from : ℕ → List (List Items) → Result (List (List Items)) SurmiseFault
surmise_from n clauses =
    option_map_or Err (option_or (flaw n clauses) (wide n clauses)) (Ok (map (in_order n) clauses))

-- the clauses of a table, in order: that all its names are items' is tried first
abbrev pub surmise_in : List Text → Table → Result (List (List Items)) SurmiseFault
surmise_in names table =
    if is_table_named names table then surmise_from (length names) (clauses_in names table)
    else Err UnknownItem

-- the clauses of a file, those of each item in order; or the first fault
unfoldable pub surmise_of : List Text → List ℕ → Result (List (List Items)) SurmiseFault
surmise_of names bytes = option_map_or (surmise_in names) (table_of bytes) (Err BadJson)

-- the fault is that of the reading, unless memory ran out
abbrev pub IsSurmiseFaultOf : {X : Type 0} → Result X SurmiseFault → SurmiseFault → Type 0
IsSurmiseFaultOf reading (Memory e) = ⊤
IsSurmiseFaultOf reading fault = reading ≡ Err fault

-- the items that a fault names
abbrev pub surmise_items : SurmiseFault → List ℕ
surmise_items (NoClause q) = q ∷ []
surmise_items (Reflexive q clause) = q ∷ []
surmise_items (NotClosed q clause r) = q ∷ r ∷ []
surmise_items (Comparable q first second) = q ∷ []
surmise_items fault = []

-- ---- the text of a surmise function

-- an array of what each element is written as
abbrev pub list_value : {X : Type 0} → (X → Data) → List X → Data
list_value value xs = array (values_of (map value xs))

-- a clause: the names of its items, in the order of items
abbrev pub clause_value : List Text → Items → Data
clause_value names c = list_value string (names_of_set names c)

-- what each element is written as, under its key; keys stand in the order of their bytes
abbrev pub put_each : {X : Type 0} → (X → Data) → List Text → List X → Members
put_each value (w ∷ ws) (x ∷ xs) = put w (value x) (put_each value ws xs)
put_each value ws xs = no_members

-- the clauses under their items' names
unfoldable pub members_from : List Text → List Text → List (List Items) → Members
members_from names ws clauses = put_each (list_value (clause_value names)) ws clauses

-- an object: under each item's name, its clauses
abbrev pub surmise_value : List Text → List (List Items) → Data
surmise_value names clauses = object (members_from names names clauses)

-- the bytes of a surmise file: that object as compact JSON
unfoldable pub surmise_text : List Text → List (List Items) → List ℕ
surmise_text names clauses = compact_text (surmise_value names clauses)
