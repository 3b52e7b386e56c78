-- What a file gives as a start is one.
use Rattle.ls_reached.proofs.Vocabulary.{◌∙◌, ◌≡◌, ◌≤◌, All-given, All-map, AllByRecursion, Bool, Err, IsNarrow, IsStart, Items, List, None, Ok, Option, Result, Some, StartFile, Text, ℕ, [], ap, base, based, compat, cond, false, first_missing, length, length-map, limited, ltb, map, most_base_sets, refl, result_ok, start_of_base, start_of_clauses, start_of_sets, start_read, subst, sym, true}
use Rattle.std.specs.Option.{option_map_or}
use Rattle.ls_theory.specs.Starts.{Start, Free, Clauses, Sets}
use Rattle.ls_theory.specs.declared.base_fault.BaseFault.{BaseFault}
use Rattle.ls_theory.specs.declared.base_fault.BaseFault.TheVariants.{NotSpanning, Past}
use Rattle.ls_theory.specs.declared.surmise_fault.SurmiseFault.{SurmiseFault}
use Rattle.ls_theory.specs.declared.surmise_fault.SurmiseFault.TheVariants.{BadJson, UnknownItem}
use Rattle.ls_set.specs.{most_items}
use Rattle.ls_origins.specs.Relations.{clauses_below}
use Rattle.ls_origins.specs.declared.pair_fault.PairFault.{PairFault}
use Rattle.ls_laws.specs.Spans.{AreOn}
use Rattle.ls_laws.proofs.Families.{compat-IsFamily}
use Rattle.ls_laws.proofs.BaseStarts.{compat-base}
use Rattle.ls_clauses.specs.Starts as laws
use Rattle.ls_clauses.proofs.Covers.{cover-least}
use Rattle.ls_clauses.proofs.BaseCovers.{based-cover}
use Rattle.ls_domain.specs.Meanings.{items_of}
use Rattle.ls_files.specs.SetFiles.{sets_of}
use Rattle.ls_files.specs.PairFiles.{relation_of}
use Rattle.ls_files.specs.SurmiseFiles.{Table, table_of, is_table_named, row_under, clauses_in, surmise_from, surmise_in, surmise_of}
use Rattle.ls_files.specs.declared.family_fault.FamilyFault.{FamilyFault}
use Rattle.ls_family.proofs.Fitting.{sets-fit, each-fits}
use Rattle.ls_surmise.proofs.Files.{clauses-on, row-named}
use Rattle.ls_codecs.proofs.WrittenStarts.{base-small}
use Rattle.ls_codecs.proofs.Surmises.{narrow-read}
use Rattle.ls_meaning.specs.Rows.{start_of_relation}
use Rattle.ls_meaning.specs.declared.request.StartFile.TheVariants as start_file
use Rattle.ls_reached.proofs.Relations.{relation-start}

-- ---- surmise functions

table-clauses : (names : List Text) (table : Table) → is_table_named names table ≡ true → AllByRecursion (AreOn (length names)) (clauses_in names table)
unfolding is_table_named clauses_in
table-clauses names table named =
    let own = λ (w : Text). map (items_of names) (row_under table w) in
    All-map (AreOn (length names)) own names (All-given (λ w. AreOn (length names) (own w)) (λ w. clauses-on names (row_under table w) (row-named names table w named)) names)

table-length : (names : List Text) (table : Table) → length (clauses_in names table) ≡ length names
unfolding clauses_in
table-length names table = length-map names (λ w. map (items_of names) (row_under table w))

surmise-start : (names : List Text) (bytes : List ℕ) (clauses : List (List Items)) → surmise_of names bytes ≡ Ok clauses → IsNarrow (length names) clauses
unfolding surmise_of
surmise-start names bytes clauses e = by-table (table_of bytes) e
  where
    by-named : (table : Table) (named : Bool) → is_table_named names table ≡ named → cond named (surmise_from (length names) (clauses_in names table)) (Err UnknownItem) ≡ Ok clauses → IsNarrow (length names) clauses
    by-named table true named e = narrow-read (length names) (clauses_in names table) clauses (table-clauses names table named) (table-length names table) (ap result_ok e)
    by-named table false named e = absurd (cc e)

    by-table : (o : Option Table) → option_map_or (surmise_in names) o (Err BadJson) ≡ Ok clauses → IsNarrow (length names) clauses
    by-table None e = absurd (cc e)
    by-table (Some table) e = by-named table (is_table_named names table) refl e

-- ---- bases

limited-is : (sets made : List Items) → limited sets ≡ Ok made → sets ≡ made
limited-is sets made =
    elim (ltb most_base_sets (length sets)) as (λ b. cond b (Err (Past (length sets))) (Ok sets) ≡ Ok made → sets ≡ made) [ true ↦ λ e. absurd (cc e) | false ↦ λ e. cc e ]

-- no item is missing
spanning : (missing : Option ℕ) (r : Result (List Items) BaseFault) (sets : List Items) → option_map_or (λ q. Err (NotSpanning q)) missing r ≡ Ok sets → r ≡ Ok sets
spanning None r sets e = e
spanning (Some q) r sets e = absurd (cc e)

-- the base of a base is that base
base-again : (n : ℕ) (sets made : List Items) → AreOn n sets → based n sets ≡ Ok made → based n made ≡ Ok made
base-again n sets made small e =
    let f = compat n (Sets sets) [] in
    let cover = based-cover n sets made small e in
    let found = spanning (first_missing n sets) (limited (base f)) made e in
    let is = limited-is (base f) made found in
    let same : compat n (Sets made) [] ≡ f = ap (λ ss. compat n (Sets ss) []) (sym is) ∙ compat-base n f (compat-IsFamily n (Sets sets) []) in
    ap (λ missing. option_map_or (λ q. Err (NotSpanning q)) missing (limited (base (compat n (Sets made) [])))) ((cover-least n made cover.small).0 cover)
    ∙ ap (λ g. limited (base g)) same ∙ found

-- ---- files

by-clauses : (n : ℕ) (r : Result (List (List Items)) SurmiseFault) (start : Start) → ((clauses : List (List Items)) → r ≡ Ok clauses → IsNarrow n clauses) → start_of_clauses r ≡ Ok start → IsStart n start
by-clauses n (Ok clauses) start narrow e = subst (IsStart n) (let same : Clauses clauses ≡ start = cc e in same) (narrow clauses refl)
by-clauses n (Err fault) start narrow e = absurd (cc e)

by-base : (n : ℕ) (r : Result (List Items) BaseFault) (start : Start) → ((made : List Items) → r ≡ Ok made → based n made ≡ Ok made) → start_of_base r ≡ Ok start → IsStart n start
by-base n (Ok made) start again e = subst (IsStart n) (let same : Sets made ≡ start = cc e in same) (again made refl)
by-base n (Err fault) start again e = absurd (cc e)

by-sets : (n : ℕ) (r : Result (List Items) FamilyFault) (start : Start) → ((sets : List Items) → r ≡ Ok sets → AreOn n sets) → start_of_sets n r ≡ Ok start → IsStart n start
by-sets n (Ok sets) start small e = by-base n (based n sets) start (λ made. base-again n sets made (small sets refl)) e
by-sets n (Err fault) start small e = absurd (cc e)

by-relation : (n : ℕ) (r : Result (List Items) PairFault) (start : Start) → ((below : List Items) → r ≡ Ok below → IsNarrow n (clauses_below below)) → start_of_relation r ≡ Ok start → IsStart n start
by-relation n (Ok below) start narrow e = subst (IsStart n) (let same : Clauses (clauses_below below) ≡ start = cc e in same) (narrow below refl)
by-relation n (Err fault) start narrow e = absurd (cc e)

pub start-from_file : (kind : StartFile) (names : List Text) (bytes : List ℕ) (start : Start) → length names ≤ most_items → start_read kind names bytes ≡ Ok start → IsStart (length names) start
start-from_file start_file.Surmise names bytes start few e = by-clauses (length names) (surmise_of names bytes) start (surmise-start names bytes) e
start-from_file start_file.Base names bytes start few e =
    by-sets (length names) (sets_of names bytes) start (λ sets read k. each-fits (length names) sets k (sets-fit names bytes sets read)) e
start-from_file start_file.Relation names bytes start few e =
    by-relation (length names) (relation_of names bytes) start (λ below. relation-start names bytes below few) e

-- ---- the starts of interviews

-- a start that is written and read back is one that an interview can have
pub start-laws : (n : ℕ) (start : Start) → IsStart n start → laws.IsStart n start
start-laws n Free h = tt
start-laws n (Clauses clauses) h = h.surmise
start-laws n (Sets sets) h = based-cover n sets sets (base-small n sets h) h
