-- Files of pairs: in each line the names of a lower and of a higher item.
--     relation_of names bytes      the relation of a file, as the items below each item; or the
--         first fault
--     covers_text names covers      covers as such a file
use Rattle.std.specs.Prelude.{ℕ, ◌+◌, not, ◌&&◌, ◌==◌, if◌then◌else◌, List, [], ◌∷◌, ◌++◌, length}
use Rattle.std.specs.Prelude.{slice_index_or, is_some, Result, Ok, Err, ⊤, ◌≡◌}
use Rattle.std.specs.List.{list_all, flat_map}
use Rattle.std.specs.Option.{option_map_or}
use Rattle.ls_set.specs.ItemSet.{Items}
use Rattle.ls_cutting.specs.Lines.{Text, lines, words}
use Rattle.ls_domain.specs.Domains.{is_name}
use Rattle.ls_domain.specs.Meanings.{item_of, first_unnamed}
use Rattle.ls_domain.specs.Texts.{name_of}
use Rattle.ls_files.specs.SetFiles.{after_ok}
use Rattle.ls_origins.specs.Relations.{relation, first_cycle}
use Rattle.ls_origins.specs.declared.pair_fault.PairFault.{PairFault}
use Rattle.ls_origins.specs.declared.pair_fault.PairFault.TheVariants.{BadLine, UnknownItem, Cycle}
use Rattle.ls_origins.specs.declared.pair_fault.PairFault.TheVariants.{Memory}
use Rattle.ls_files.specs.declared.pair_line.PairLine.{PairLine}
use Rattle.ls_files.specs.declared.pair_line.PairLine.TheVariants.{Passed, Bad, Unknown, Pair}

-- ---- one line

-- the word at a place, counted from 0; the empty text where there is none
abbrev pub word_at : List Text → ℕ → Text
word_at ws place = slice_index_or ws place []

-- the pair of two words, if both are names, and each name is an item's
abbrev pub pair_named : List Text → List Text → PairLine
pair_named names ws =
    if not (length ws == 2 && list_all is_name ws) then Bad
    else if is_some (first_unnamed names ws) then Unknown
    else Pair (item_of names (word_at ws 0)) (item_of names (word_at ws 1))

-- what a line is; one without words is passed over, and a note has none
unfoldable pub line_read : List Text → List ℕ → PairLine
line_read names line = let ws = words line in if length ws == 0 then Passed else pair_named names ws

-- ---- a file

-- the pairs after one line more
abbrev pub with_line : List (ℕ × ℕ) → ℕ → PairLine → Result (List (ℕ × ℕ)) PairFault
with_line pairs row Passed = Ok pairs
with_line pairs row Bad = Err (BadLine row)
with_line pairs row Unknown = Err (UnknownItem row)
with_line pairs row (Pair low high) = Ok (pairs ++ (low, high) ∷ [])

-- the pairs after further lines, of which the first has the row; or the first fault
unfoldable pub pairs_from : List Text → List (ℕ × ℕ) → ℕ → List (List ℕ)
    → Result (List (ℕ × ℕ)) PairFault
pairs_from names pairs row [] = Ok pairs
pairs_from names pairs row (line ∷ rest) =
    after_ok (λ more. pairs_from names more (row + 1) rest)
    (with_line pairs row (line_read names line))

-- the pairs of a file, as they stand; or its first fault. Rows are counted from 1.
abbrev pub pairs_of_file : List Text → List ℕ → Result (List (ℕ × ℕ)) PairFault
pairs_of_file names text = pairs_from names [] 1 (lines text)

-- the relation of pairs, unless it puts an item below itself
unfoldable pub acyclic : ℕ → List (ℕ × ℕ) → Result (List Items) PairFault
acyclic n pairs = option_map_or (λ q. Err (Cycle q)) (first_cycle n pairs) (Ok (relation n pairs))

unfoldable pub relation_of : List Text → List ℕ → Result (List Items) PairFault
relation_of names text = after_ok (acyclic (length names)) (pairs_of_file names text)

-- the fault is that of the reading, unless memory ran out
abbrev pub IsPairFaultOf : {X : Type 0} → Result X PairFault → PairFault → Type 0
IsPairFaultOf reading (Memory e) = ⊤
IsPairFaultOf reading fault = reading ≡ Err fault

-- the items that a fault names
abbrev pub pair_items : PairFault → List ℕ
pair_items (Cycle q) = q ∷ []
pair_items fault = []

-- ---- the text of covers

-- a pair as a line
abbrev pub pair_line : List Text → ℕ × ℕ → List ℕ
pair_line names p = name_of names p.0 ++ 32 ∷ name_of names p.1 ++ 10 ∷ []

unfoldable pub covers_text : List Text → List (ℕ × ℕ) → List ℕ
covers_text names covers = flat_map (pair_line names) covers
