-- The reading of a table, record by record.
use Rattle.ls_class.proofs.Vocabulary.{◌++◌, ◌+◌, ◌<◌, ◌∙◌, ◌∷◌, ◌≡◌, ◌≤◌, Err, IfErr, IsErrAnd, IsClassFaultOf, IsRowFault, Items, List, None, Ok, Result, Row, Some, Text, ℕ, [], ap, arith, cases_Bool, class_in, class_of, columns_of, drop, drop-next, false, get_or, inl, inr, is_name, is_named, is_next_name, length, map, marked, most_class_pupils, nat_tests, next_row, none-some, option_map, refl, rows_from, slice_get, subst, suc, sym, table_records, take, true, zero}
use Rattle.std.specs.declared.option.Option.{Option}
use Rattle.std.proofs.lemmas.List.{length-append, drop_all}
use Rattle.csv.specs.Records as records
use Rattle.ls_class.specs.declared.class_fault.ClassFault.{ClassFault}
use Rattle.ls_class.specs.declared.class_fault.ClassFault.TheVariants.{BadClass, Memory}

pub rows_from-nil : (columns : List ℕ) (earlier : List Row) → rows_from columns earlier [] ≡ Ok earlier
unfolding rows_from
rows_from-nil columns earlier = refl

pub rows_from-bad : (columns : List ℕ) (earlier : List Row) (fields : List Text) (records : List (List Text)) → next_row columns earlier fields ≡ None → rows_from columns earlier (fields ∷ records) ≡ Err (length earlier + 2)
unfolding rows_from
rows_from-bad columns earlier fields records e = rw e refl

pub rows_from-next : (columns : List ℕ) (earlier : List Row) (fields : List Text) (records : List (List Text)) (row : Row) → next_row columns earlier fields ≡ Some row
    → rows_from columns earlier (fields ∷ records) ≡ rows_from columns (earlier ++ row ∷ []) records
unfolding rows_from
rows_from-next columns earlier fields records row e = rw e refl

-- there is a place for one more pupil
pub next_row-room : (columns : List ℕ) (earlier : List Row) (fields : List Text) (row : Row) → next_row columns earlier fields ≡ Some row → length earlier < most_class_pupils
unfolding next_row
next_row-room columns earlier [] row e = absurd (none-some row e)
next_row-room columns earlier (name ∷ marks) row e =
    elim (cases_Bool (is_next_name earlier name)) [
      | inl next ↦ grind (arith, nat_tests, next)
      | inr never ↦ let no_row : None ≡ Some row = rw never at e in absurd (none-some row no_row)
    ]

-- records past the limit tell nothing
rows_from-take : (n : ℕ) (columns : List ℕ) (earlier : List Row) (records : List (List Text)) → most_class_pupils < length earlier + n → length earlier ≤ most_class_pupils → rows_from columns earlier (take n records) ≡ rows_from columns earlier records
rows_from-take zero columns earlier records above within = absurd (omega arith)
rows_from-take (suc n) columns earlier [] above within = refl
rows_from-take (suc n) columns earlier (fields ∷ records) above within =
    elim (next_row columns earlier fields) as (λ o. next_row columns earlier fields ≡ o → rows_from columns earlier (fields ∷ take n records) ≡ rows_from columns earlier (fields ∷ records)) [
      | None ↦ λ e. rows_from-bad columns earlier fields (take n records) e ∙ sym (rows_from-bad columns earlier fields records e)
      | Some row ↦ λ e.
          let longer = length-append earlier (row ∷ []) in
          let place = next_row-room columns earlier fields row e in
          rows_from-next columns earlier fields (take n records) row e
          ∙ rows_from-take n columns (earlier ++ row ∷ []) records (omega (arith, longer, place)) (omega (arith, longer, place))
          ∙ sym (rows_from-next columns earlier fields records row e)
    ] refl

pub class_in-nil : (names : List Text) → class_in names [] ≡ Err 1
unfolding class_in
class_in-nil names = refl

pub class_in-bad : (names header : List Text) (records : List (List Text)) → columns_of names header ≡ None → class_in names (header ∷ records) ≡ Err 1
unfolding class_in
class_in-bad names header records e = rw e refl

class_in-rows : (names header : List Text) (records : List (List Text)) (columns : List ℕ) → columns_of names header ≡ Some columns → class_in names (header ∷ records) ≡ rows_from columns [] records
unfolding class_in
class_in-rows names header records columns e = rw e refl

pub class_in-take : (names : List Text) (table : List (List Text)) → class_in names (take (most_class_pupils + 2) table) ≡ class_in names table
class_in-take names [] = refl
class_in-take names (header ∷ records) =
    elim (columns_of names header) as (λ o. columns_of names header ≡ o → class_in names (header ∷ take (most_class_pupils + 1) records) ≡ class_in names (header ∷ records)) [
      | None ↦ λ e. class_in-bad names header (take (most_class_pupils + 1) records) e ∙ sym (class_in-bad names header records e)
      | Some columns ↦ λ e.
          class_in-rows names header (take (most_class_pupils + 1) records) columns e
          ∙ rows_from-take (most_class_pupils + 1) columns [] records (omega arith) (omega arith)
          ∙ sym (class_in-rows names header records columns e)
    ] refl

-- ---- the table of a reader

-- a table with no record
pub class_of-none : (names : List Text) (bytes : List ℕ) (vs : List records.Row) → map records.fields_of vs ≡ take (most_class_pupils + 2) (table_records bytes) → length vs ≡ 0 → class_of names bytes ≡ Err 1
unfolding class_of
class_of-none names bytes [] front none = sym (class_in-take names (table_records bytes)) ∙ ap (class_in names) (sym front) ∙ class_in-nil names
class_of-none names bytes (v ∷ vs) front none = absurd (omega (arith, none))

-- a table with a first record
pub class_of-begun : (names : List Text) (bytes : List ℕ) (vs pupils : List records.Row) (header : records.Row) → map records.fields_of vs ≡ take (most_class_pupils + 2) (table_records bytes) → vs ≡ header ∷ pupils
    → class_of names bytes ≡ class_in names (records.fields_of header ∷ map records.fields_of pupils)
unfolding class_of
class_of-begun names bytes vs pupils header front parts = sym (class_in-take names (table_records bytes)) ∙ ap (class_in names) (sym front ∙ ap (map records.fields_of) parts)

-- the same, where that record names the columns
pub class_of-rows : (names : List Text) (bytes : List ℕ) (vs pupils : List records.Row) (header : records.Row) (columns : List ℕ) → map records.fields_of vs ≡ take (most_class_pupils + 2) (table_records bytes) → vs ≡ header ∷ pupils
    → Some columns ≡ columns_of names (records.fields_of header) → class_of names bytes ≡ rows_from columns [] (map records.fields_of pupils)
class_of-rows names bytes vs pupils header columns front parts found =
    class_of-begun names bytes vs pupils header front parts ∙ class_in-rows names (records.fields_of header) (map records.fields_of pupils) columns (sym found)

-- ---- a loop over records: the rows so far, and the records from i on

put : (o : Option Row) (earlier now : List Row) → option_map (λ row. earlier ++ row ∷ []) o ≡ Some now → (row : Row) × (o ≡ Some row) × (earlier ++ row ∷ [] ≡ now)
put None earlier now e = absurd (none-some now e)
put (Some row) earlier now e = (row, refl, cc)

told : (reading : Result (List Row) ℕ) (found : Option Row) (row : ℕ) (e : ClassFault) → (found ≡ None → reading ≡ Err row) → IsRowFault found row e → IsClassFaultOf reading e
told reading found row (BadClass bad) is fault = is fault.0 ∙ ap (λ n. Err n) (sym fault.1)
told reading found row (Memory e) is fault = tt

module _ (columns : List ℕ) (vs : List records.Row) (i : ℕ) (v : records.Row) (lt : i < length vs) (at : v ≡ get_or vs i v) (earlier : List Row) where
  next : rows_from columns earlier (map records.fields_of (drop i vs)) ≡ rows_from columns earlier (records.fields_of v ∷ map records.fields_of (drop (i + 1) vs))
  next = ap (λ l. rows_from columns earlier (map records.fields_of l)) (drop-next vs i v lt at)

  pub loop-next : (now : List Row) → option_map (λ row. earlier ++ row ∷ []) (next_row columns earlier (records.fields_of v)) ≡ Some now
      → rows_from columns earlier (map records.fields_of (drop i vs)) ≡ rows_from columns now (map records.fields_of (drop (i + 1) vs))
  loop-next now is =
      let row = put (next_row columns earlier (records.fields_of v)) earlier now is in
      next ∙ rows_from-next columns earlier (records.fields_of v) (map records.fields_of (drop (i + 1) vs)) row.0 row.1 ∙ ap (λ l. rows_from columns l (map records.fields_of (drop (i + 1) vs))) row.2

  pub loop-fault : (reading : Result (List Row) ℕ) (e : ClassFault) → reading ≡ rows_from columns earlier (map records.fields_of (drop i vs)) → IsRowFault (next_row columns earlier (records.fields_of v)) (length earlier + 2) e → IsClassFaultOf reading e
  loop-fault reading e so_far fault =
      told reading (next_row columns earlier (records.fields_of v)) (length earlier + 2) e (λ none. so_far ∙ next ∙ rows_from-bad columns earlier (records.fields_of v) (map records.fields_of (drop (i + 1) vs)) none) fault

-- a fault that is passed on
pub passed_on : {T : Type 0} (reading : Result (List Row) ℕ) (r : Result T ClassFault) (e : ClassFault) → IsErrAnd r (λ f. f ≡ e) → IsClassFaultOf reading e → IfErr r (IsClassFaultOf reading)
passed_on reading (Ok x) e is fault = tt
passed_on reading (Err f) e is fault = subst (IsClassFaultOf reading) (sym is) fault

pub loop-end : (columns : List ℕ) (vs : List records.Row) (i : ℕ) (earlier : List Row) → length vs ≤ i → rows_from columns earlier (map records.fields_of (drop i vs)) ≡ Ok earlier
loop-end columns vs i earlier end = ap (λ l. rows_from columns earlier (map records.fields_of l)) (drop_all i vs end) ∙ rows_from-nil columns earlier

-- ---- one record

pub next_row-no_field : (columns : List ℕ) (earlier : List Row) (fields : List Text) → None ≡ slice_get fields 0 → next_row columns earlier fields ≡ None
unfolding next_row
next_row-no_field columns earlier [] first = refl
next_row-no_field columns earlier (name ∷ marks) first = absurd (none-some name first)

pub next_name-none : (earlier : List Row) (name : Text) → is_name name ≡ false → is_next_name earlier name ≡ false
next_name-none earlier name e = rw e refl

pub next_name-full : (earlier : List Row) (name : Text) → length earlier ≡ most_class_pupils → is_next_name earlier name ≡ false
next_name-full earlier name e = grind (arith, nat_tests, e)

pub next_name-new : (earlier : List Row) (name : Text) → is_name name ≡ true → is_named (map (λ row. row.name) earlier) name ≡ false → length earlier < most_class_pupils → is_next_name earlier name ≡ true
next_name-new earlier name named new room = grind (arith, nat_tests, named, new, room)

pub next_name-again : (earlier : List Row) (name : Text) → is_named (map (λ row. row.name) earlier) name ≡ true → is_next_name earlier name ≡ false
next_name-again earlier name e = grind (arith, nat_tests, e)

pub next_row-no_name : (columns : List ℕ) (earlier : List Row) (fields : List Text) (name : Text) → Some name ≡ slice_get fields 0 → is_next_name earlier name ≡ false → next_row columns earlier fields ≡ None
unfolding next_row
next_row-no_name columns earlier [] name first e = refl
next_row-no_name columns earlier (w ∷ marks) name first e = let same : w ≡ name = cc in rw (same, e) refl

pub next_row-no_marks : (columns : List ℕ) (earlier : List Row) (fields : List Text) → None ≡ marked columns (drop 1 fields) → next_row columns earlier fields ≡ None
unfolding next_row
next_row-no_marks columns earlier [] none = refl
next_row-no_marks columns earlier (w ∷ marks) none =
    elim (cases_Bool (is_next_name earlier w)) [
      | inl next ↦ rw (next, ← none) refl
      | inr never ↦ rw never refl
    ]

pub next_row-some : (columns : List ℕ) (earlier : List Row) (fields : List Text) (name : Text) (right : Items) → Some name ≡ slice_get fields 0 → is_next_name earlier name ≡ true → Some right ≡ marked columns (drop 1 fields)
    → next_row columns earlier fields ≡ Some (record { name = name; right = right })
unfolding next_row
next_row-some columns earlier [] name right first next marks = absurd (none-some name (sym first))
next_row-some columns earlier (w ∷ ms) name right first next marks = let same : w ≡ name = cc in rw (same, next, ← marks) refl
