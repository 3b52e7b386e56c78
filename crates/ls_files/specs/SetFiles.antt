-- Set files: one set a line. Bytes are numbers: 123 is `{` and 125 is `}`.
use Rattle.std.specs.Prelude.{ℕ, ◌+◌, Bool, not, ◌||◌, ◌==◌, nat_le, nat_lt, if◌then◌else◌, List}
use Rattle.std.specs.Prelude.{[], ◌∷◌, length, take, drop, filter, slice_index, position, is_some}
use Rattle.std.specs.Prelude.{Option, Some, None, Result, Ok, Err, ⊤, ◌≡◌}
use Rattle.std.specs.List.{slice_split, prefix_len, list_all}
use Rattle.std.specs.Option.{option_map_or, option_and_then}
use Rattle.std.specs.Map.{lookup, keys_of}
use Rattle.ls_set.specs.{Items, comes_before, is_same}
use Rattle.ls_cutting.specs.{Text, is_blank, is_note, lines, parts_words, without_return}
use Rattle.ls_domain.specs.Domains.{is_name}
use Rattle.ls_domain.specs.Meanings.{items_of, first_unnamed}
use Rattle.ls_files.specs.declared.set_line.SetLine.{SetLine}
use Rattle.ls_files.specs.declared.set_line.SetLine.TheVariants.{Passed, Bad, Unknown, Set}
use Rattle.ls_files.specs.declared.family_fault.FamilyFault.{FamilyFault}
use Rattle.ls_files.specs.declared.family_fault.FamilyFault.TheVariants.{BadLine, UnknownItem}
use Rattle.ls_files.specs.declared.family_fault.FamilyFault.TheVariants.{Repeat, TooMany, Memory}

-- ---- one line

-- the line from its first byte on that is no space and no tab
abbrev pub unindented : List ℕ → List ℕ
unindented line = drop (prefix_len is_blank line) line

-- a line that is passed over: spaces and tabs alone, or none, or a note
abbrev pub is_passed : List ℕ → Bool
is_passed line = (length (unindented line) == 0) || is_note line

-- what stands before the first `}`, where spaces and tabs alone follow it
abbrev pub until_brace : List ℕ → Option (List ℕ)
until_brace line =
    option_and_then (λ i. if list_all is_blank (drop (i + 1) line) then
    Some (take i line) else None) (position (λ b. b == 125) line)

-- what stands between the braces, where the line is within braces but for spaces and tabs round
-- them
abbrev pub within_braces : List ℕ → Option (List ℕ)
within_braces line =
    if slice_index (unindented line) 0 == 123 then until_brace (drop 1 (unindented line)) else None

-- the runs of bytes between spaces, tabs and commas
abbrev pub words_within : List ℕ → List Text
words_within part = filter (λ w. nat_lt 0 (length w)) (slice_split parts_words part)

-- the set of the words, if each is a name, and each name is an item's
abbrev pub set_named : List Text → List Text → SetLine
set_named names ws =
    if not (list_all is_name ws) then Bad
    else if is_some (first_unnamed names ws) then Unknown
    else Set (items_of names ws)

-- what a line is, without the carriage return at its end
abbrev pub body_read : List Text → List ℕ → SetLine
body_read names body =
    if is_passed body then Passed
    else option_map_or (λ part. set_named names (words_within part)) (within_braces body) Bad

-- what a line is
unfoldable pub line_read : List Text → List ℕ → SetLine
line_read names line = body_read names (without_return line)

-- ---- a file

-- the most sets of a file
abbrev pub most_members : ℕ
most_members = 65536

-- sets in their order, each with the row of its line
abbrev pub Found : Type 0
Found = List (Items × ℕ)

-- the row of the set, if it was found
abbrev pub row_found : Found → Items → Option ℕ
row_found found s = lookup (is_same s) found

-- one set more, at its place in the order of sets
abbrev pub inserted : Found → Items → ℕ → Found
inserted [] s row = (s, row) ∷ []
inserted (e ∷ found) s row =
    if comes_before s e.0 then (s, row) ∷ e ∷ found else e ∷ inserted found s row

-- the sets after one set more: a repeat of a set names the row of the first
abbrev pub with_set : Found → ℕ → Items → Result Found FamilyFault
with_set found row s =
    option_map_or (λ first. Err (Repeat row first)) (row_found found s)
    (if nat_le most_members (length found) then Err (TooMany row) else Ok (inserted found s row))

-- the sets after one line more
abbrev pub with_line : Found → ℕ → SetLine → Result Found FamilyFault
with_line found row Passed = Ok found
with_line found row Bad = Err (BadLine row)
with_line found row Unknown = Err (UnknownItem row)
with_line found row (Set s) = with_set found row s

-- the next step, where the one before found no fault
abbrev pub after_ok : {X Y E : Type 0} → (X → Result Y E) → Result X E → Result Y E
after_ok next (Ok x) = next x
after_ok next (Err fault) = Err fault

-- the sets after further lines, of which the first has the row; or the first fault
unfoldable pub found_from : List Text → Found → ℕ → List (List ℕ) → Result Found FamilyFault
found_from names found row [] = Ok found
found_from names found row (line ∷ rest) =
    after_ok (λ more. found_from names more (row + 1) rest)
    (with_line found row (line_read names line))

-- the sets of a file, in the order of sets, each once; or its first fault. Rows are counted from 1.
unfoldable pub sets_of : List Text → List ℕ → Result (List Items) FamilyFault
sets_of names text = after_ok (λ found. Ok (keys_of found)) (found_from names [] 1 (lines text))

-- the fault is that of the reading, unless memory ran out
abbrev pub IsFamilyFault : {X : Type 0} → Result X FamilyFault → FamilyFault → Type 0
IsFamilyFault reading (Memory e) = ⊤
IsFamilyFault reading fault = reading ≡ Err fault
