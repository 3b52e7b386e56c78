-- The value of a surmise function, as that of rows of texts; and that it is read from its text.
use Rattle.ls_surmise.proofs.Vocabulary.{◌∙◌, ◌∷◌, ◌≡◌, AllByRecursion, IsUtf8, IsUtf8-are_ascii, Items, List, Some, Text, ℕ, [], ap, ap₂, arith, array, clause_value, compact_text, each, false, filter, has, has_float, is_name, is_name-utf8, length, list_all, list_all-All, list_value, map, members_from, name_of, names_of_set, numbers_from, object, option_and_then, put, read_table, refl, string, suc, surmise_text, surmise_value, table_of, true, value_of, values_of, zero}
use Rattle.ls_files.specs.Codecs.{lists, texts}
use Rattle.ls_files.specs.SurmiseFiles.{put_each}
use Rattle.ls_files.proofs.CodecLaws.{IsReadBack, lists-back, texts-back}
use Rattle.ls_files.proofs.PutMembers.{object-back, object-exact}
use Rattle.ls_files.proofs.RowTables.{rows-read, table_of_rows}

-- the clauses of an item, and of each, by the names of their items
abbrev pub row_of : List Text → List Items → List (List Text)
row_of names own = map (names_of_set names) own

abbrev pub rows_of : List Text → List (List Items) → List (List (List Text))
rows_of names clauses = map (row_of names) clauses

row-same : (names : List Text) (own : List Items) → map (clause_value names) own ≡ map (list_value string) (row_of names own)
row-same names [] = refl
row-same names (c ∷ own) = ap (λ ds. clause_value names c ∷ ds) (row-same names own)

members-same : (names ws : List Text) (clauses : List (List Items)) → put_each (list_value (clause_value names)) ws clauses ≡ put_each (list_value (list_value string)) ws (rows_of names clauses)
members-same names [] clauses = refl
members-same names (w ∷ ws) [] = refl
members-same names (w ∷ ws) (own ∷ clauses) = ap₂ (λ ds ms. put w (array (values_of ds)) ms) (row-same names own) (members-same names ws clauses)

back : IsReadBack (List (List Text)) (lists (lists texts)) (AllByRecursion (AllByRecursion IsUtf8)) 2
back = lists-back (lists-back texts-back)

pub surmise-no_float : (names : List Text) (clauses : List (List Items)) → has_float (surmise_value names clauses) ≡ false
unfolding members_from
surmise-no_float names clauses = ap (λ ms. has_float (object ms)) (members-same names names clauses) ∙ object-exact back names (rows_of names clauses)

-- ---- each text is UTF-8

name-utf8 : (names : List Text) (i : ℕ) → AllByRecursion IsUtf8 names → IsUtf8 (name_of names i)
name-utf8 [] i h = IsUtf8-are_ascii [] refl
name-utf8 (w ∷ names) zero h = h.0
name-utf8 (w ∷ names) (suc i) h = name-utf8 names i h.1

module _ (names : List Text) (h : AllByRecursion IsUtf8 names) where
  names-utf8 : (is : List ℕ) → AllByRecursion IsUtf8 (map (name_of names) is)
  names-utf8 [] = tt
  names-utf8 (i ∷ is) = (name-utf8 names i h, names-utf8 is)

  row-utf8 : (own : List Items) → AllByRecursion (AllByRecursion IsUtf8) (row_of names own)
  unfolding names_of_set
  row-utf8 [] = tt
  row-utf8 (c ∷ own) = (names-utf8 (filter (has c) (numbers_from 0 (length names))), row-utf8 own)

  rows-utf8 : (clauses : List (List Items)) → AllByRecursion (AllByRecursion (AllByRecursion IsUtf8)) (rows_of names clauses)
  rows-utf8 [] = tt
  rows-utf8 (own ∷ clauses) = (row-utf8 own, rows-utf8 clauses)

-- ---- the text

pub table-back : (names : List Text) (clauses : List (List Items)) → list_all is_name names ≡ true → table_of (surmise_text names clauses) ≡ Some (table_of_rows names (rows_of names clauses))
unfolding table_of surmise_text members_from
table-back names clauses h =
    let rows = rows_of names clauses in
    let keys = each is_name-utf8 names (list_all-All is_name names h) in
    let fine = rows-utf8 names keys clauses in
    ap (λ ms. option_and_then read_table (value_of (compact_text (object ms)))) (members-same names names clauses)
    ∙ ap (option_and_then read_table) (object-back back names rows keys fine (omega arith))
    ∙ rows-read back names rows fine
