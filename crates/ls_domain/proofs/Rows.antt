-- The reading of rows, row by row.
use Rattle.ls_domain.proofs.Vocabulary.{◌++◌, ◌+◌, ◌<◌, ◌==◌, ◌∙◌, ◌∷◌, ◌≡◌, ◌≢◌, ◌≤◌, BadCsv, BadName, Err, FirstField, IsDomainFault, IsNameFault, List, Memory, NoItems, None, Ok, Option, PLACES, Repeat, Result, Some, Text, TooMany, ℕ, [], ap, ap₂, arith, cases_Bool, drop, eq-eqb, even_field, false, first_field, first_fields, get_or, inl, inr, is_name, is_named, item_of, length, map, name_fault, names_from, names_of, names_of_table, names_of_words, nat_le, nat_tests, ne_eqb, none-some, number_of, ok-err, refl, same_Ok, slice_get, suc, sym, table_records, take, true, zero}
use Rattle.std.proofs.lemmas.List.{length-append, length-map, take-map, drop_more, drop_all}
use Rattle.std.proofs.lemmas.Simd.{map-map}
use Rattle.csv.specs.Records as records
use Rattle.ls_domain.specs.declared.domain_fault.DomainFault.{DomainFault}
use Rattle.ls_domain.proofs.Numbers.{is_named-some, item_of-some}

-- ---- one row

pub names_from-nil : (earlier : List Text) → names_from earlier [] ≡ Ok earlier
unfolding names_from
names_from-nil earlier = refl

pub names_from-bad : (earlier : List Text) (rows : List FirstField) → names_from earlier (None ∷ rows) ≡ Err (BadCsv (length earlier + 1))
unfolding names_from
names_from-bad earlier rows = refl

pub names_from-fault : (earlier : List Text) (w : Text) (rows : List FirstField) (fault : DomainFault) → name_fault earlier w ≡ Some fault → names_from earlier (Some w ∷ rows) ≡ Err fault
unfolding names_from
names_from-fault earlier w rows fault e = rw e refl

pub names_from-next : (earlier : List Text) (w : Text) (rows : List FirstField) → name_fault earlier w ≡ None → names_from earlier (Some w ∷ rows) ≡ names_from (earlier ++ w ∷ []) rows
unfolding names_from
names_from-next earlier w rows e = rw e refl

-- ---- what is wrong with a name

pub fault-no_name : (earlier : List Text) (w : Text) → is_name w ≡ false → name_fault earlier w ≡ Some (BadName (length earlier + 1))
fault-no_name earlier w e = rw e refl

fault-repeat : (earlier : List Text) (w : Text) → is_name w ≡ true → is_named earlier w ≡ true → name_fault earlier w ≡ Some (Repeat (length earlier + 1) (item_of earlier w + 1))
fault-repeat earlier w name again = rw (name, again) refl

-- the same with the numbers that were found
pub fault-again : (earlier : List Text) (w : Text) (row i : ℕ) → is_name w ≡ true → Some i ≡ number_of earlier w → row ≡ length earlier → name_fault earlier w ≡ Some (Repeat (row + 1) (i + 1))
fault-again earlier w row i name found is =
    fault-repeat earlier w name (is_named-some earlier w i (sym found)) ∙ ap₂ (λ m n. Some (Repeat (m + 1) (n + 1))) (sym is) (item_of-some earlier w i (sym found))

pub fault-many : (earlier : List Text) (w : Text) → is_name w ≡ true → is_named earlier w ≡ false → PLACES ≤ length earlier → name_fault earlier w ≡ Some TooMany
fault-many earlier w name new full =
    let test : nat_le PLACES (length earlier) ≡ true = grind (arith, nat_tests) in
    rw (name, new, test) refl

pub fault-none : (earlier : List Text) (w : Text) → is_name w ≡ true → is_named earlier w ≡ false → length earlier < PLACES → name_fault earlier w ≡ None
fault-none earlier w name new room =
    let test : nat_le PLACES (length earlier) ≡ false = grind (arith, nat_tests) in
    rw (name, new, test) refl

-- what holds of a name that nothing is wrong with
pub record IsFree (earlier : List Text) (w : Text) : Type 0 where
  pub name : is_name w ≡ true
  pub new : is_named earlier w ≡ false
  pub room : length earlier < PLACES

pub free : (earlier : List Text) (w : Text) → name_fault earlier w ≡ None → IsFree earlier w
free earlier w none =
    elim (cases_Bool (is_name w)) [
      | inl name ↦ elim (cases_Bool (is_named earlier w)) [
        | inl again ↦ absurd (none-some _ (sym none ∙ fault-repeat earlier w name again))
        | inr new ↦ elim (cases_Bool (nat_le PLACES (length earlier))) [
          | inl full ↦ absurd (none-some _ (sym none ∙ fault-many earlier w name new (grind (arith, nat_tests))))
          | inr below ↦ record { name = name; new = new; room = grind (arith, nat_tests) }
        ]
      ]
      | inr no_name ↦ absurd (none-some _ (sym none ∙ fault-no_name earlier w no_name))
    ]

-- ---- all rows

-- the row of a record of the reader
abbrev pub record_field : ℕ → records.Row → FirstField
record_field width r = even_field width (records.fields_of r)

-- the names of rows are as many as the rows
pub length-names_from : (earlier : List Text) (rows : List FirstField) (names : List Text) → names_from earlier rows ≡ Ok names → length names ≡ length earlier + length rows
length-names_from earlier [] names e =
    let same : earlier ≡ names = same_Ok (sym (names_from-nil earlier) ∙ e) in
    rw (← same) (omega arith)
length-names_from earlier (None ∷ rows) names e = absurd (ok-err (sym e ∙ names_from-bad earlier rows))
length-names_from earlier (Some w ∷ rows) names e =
    elim (name_fault earlier w) as (λ o. name_fault earlier w ≡ o → length names ≡ length earlier + suc (length rows)) [
      | None ↦ λ f.
          let rest = length-names_from (earlier ++ w ∷ []) rows names (sym (names_from-next earlier w rows f) ∙ e) in
          omega (arith, rest, length-append earlier (w ∷ []))
      | Some fault ↦ λ f. absurd (ok-err (sym e ∙ names_from-fault earlier w rows fault f))
    ] refl

-- rows past the limit tell nothing
names_from-take : (n : ℕ) (earlier : List Text) (rows : List FirstField) → PLACES < length earlier + n → length earlier ≤ PLACES → names_from earlier (take n rows) ≡ names_from earlier rows
names_from-take zero earlier rows above within = absurd (omega arith)
names_from-take (suc n) earlier [] above within = refl
names_from-take (suc n) earlier (None ∷ rows) above within = names_from-bad earlier (take n rows) ∙ sym (names_from-bad earlier rows)
names_from-take (suc n) earlier (Some w ∷ rows) above within =
    elim (name_fault earlier w) as (λ o. name_fault earlier w ≡ o → names_from earlier (Some w ∷ take n rows) ≡ names_from earlier (Some w ∷ rows)) [
      | None ↦ λ f.
          let longer = length-append earlier (w ∷ []) in
          let place = (free earlier w f).room in
          names_from-next earlier w (take n rows) f
          ∙ names_from-take n (earlier ++ w ∷ []) rows (omega (arith, longer, place)) (omega (arith, longer, place))
          ∙ sym (names_from-next earlier w rows f)
      | Some fault ↦ λ f. names_from-fault earlier w (take n rows) fault f ∙ sym (names_from-fault earlier w rows fault f)
    ] refl

pub names_of-take : (n : ℕ) (table : List (List Text)) → PLACES < n → names_of (first_fields (take n table)) ≡ names_of (first_fields table)
names_of-take zero table above = absurd (omega arith)
names_of-take (suc n) [] above = refl
names_of-take (suc n) (fields ∷ table) above =
    let row = even_field (length fields) in
    ap (λ rows. names_from [] (row fields ∷ rows)) (sym (take-map row n table))
    ∙ names_from-take (suc n) [] (row fields ∷ map row table) (omega arith) (omega arith)

names_of-some : (rows : List FirstField) → 0 < length rows → names_of rows ≡ names_from [] rows
names_of-some [] some = absurd (omega arith)
names_of-some (row ∷ rows) some = refl

-- a fault of one name is that of the reading
fault_told : (reading : Result (List Text) DomainFault) (found : Option DomainFault) (e : DomainFault) → ((fault : DomainFault) → found ≡ Some fault → reading ≡ Err fault) → IsNameFault found e → IsDomainFault reading e
fault_told reading found NoItems told is = told _ is
fault_told reading found (BadCsv row) told is = told _ is
fault_told reading found (BadName row) told is = told _ is
fault_told reading found (Repeat row first) told is = told _ is
fault_told reading found TooMany told is = told _ is
fault_told reading found (Memory e) told is = tt

-- ---- a loop over rows: the names so far, and the rows from i on

module _ {X : Type 0} (row : X → FirstField) (xs : List X) (i : ℕ) (x : X) (lt : i < length xs) (at : x ≡ get_or xs i x) where
  next : drop i xs ≡ x ∷ drop (i + 1) xs
  next = drop_more xs i x lt ∙ ap (λ y. y ∷ drop (i + 1) xs) (sym at)

  pub loop-next : (earlier : List Text) (w : Text) → row x ≡ Some w → name_fault earlier w ≡ None → names_from earlier (map row (drop i xs)) ≡ names_from (earlier ++ w ∷ []) (map row (drop (i + 1) xs))
  loop-next earlier w is none =
      ap (λ l. names_from earlier (map row l)) next ∙ ap (λ r. names_from earlier (r ∷ map row (drop (i + 1) xs))) is ∙ names_from-next earlier w (map row (drop (i + 1) xs)) none

  pub loop-bad : (earlier : List Text) (reading : Result (List Text) DomainFault) → row x ≡ None → reading ≡ names_from earlier (map row (drop i xs)) → reading ≡ Err (BadCsv (length earlier + 1))
  loop-bad earlier reading is so_far =
      so_far ∙ ap (λ l. names_from earlier (map row l)) next ∙ ap (λ r. names_from earlier (r ∷ map row (drop (i + 1) xs))) is ∙ names_from-bad earlier (map row (drop (i + 1) xs))

  pub loop-fault : (earlier : List Text) (w : Text) (reading : Result (List Text) DomainFault) (e : DomainFault) → row x ≡ Some w → reading ≡ names_from earlier (map row (drop i xs)) → IsNameFault (name_fault earlier w) e → IsDomainFault reading e
  loop-fault earlier w reading e is so_far found =
      fault_told reading (name_fault earlier w) e
      (λ fault f. so_far ∙ ap (λ l. names_from earlier (map row l)) next ∙ ap (λ r. names_from earlier (r ∷ map row (drop (i + 1) xs))) is ∙ names_from-fault earlier w (map row (drop (i + 1) xs)) fault f) found

pub loop-end : {X : Type 0} (row : X → FirstField) (xs : List X) (i : ℕ) (earlier : List Text) (reading : Result (List Text) DomainFault) → length xs ≤ i → reading ≡ names_from earlier (map row (drop i xs)) → reading ≡ Ok earlier
loop-end row xs i earlier reading end so_far = so_far ∙ ap (λ l. names_from earlier (map row l)) (drop_all i xs end) ∙ names_from-nil earlier

-- rows that were all read gave some names, where there is some row
some_names : (rows : List FirstField) (names : List Text) → names_from [] rows ≡ Ok names → 0 < length rows → 0 < length names
some_names rows names read some = let as_many = length-names_from [] rows names read in omega arith

pub some_rows : {X : Type 0} (row : X → FirstField) (xs : List X) (i : ℕ) (names : List Text) → length xs ≤ i → names_from [] (map row xs) ≡ names_from names (map row (drop i xs)) → 0 < length xs → 0 < length names
some_rows row xs i names end so_far some = some_names (map row xs) names (loop-end row xs i names (names_from [] (map row xs)) end so_far) (rw (length-map xs row) some)

-- ---- words and tables

pub not_none : (n : ℕ) → false ≡ (n == 0) → 0 < n
not_none n e = grind (arith, nat_tests)

pub words_read : (ws : List Text) → 0 < length ws → names_of_words ws ≡ names_from [] (map Some ws)
words_read ws some = names_of-some (map Some ws) (rw (length-map ws Some) some)

pub even_field-good : (width : ℕ) (fields : List Text) → length fields ≡ width → even_field width fields ≡ Some (first_field fields)
even_field-good width fields e = rw (eq-eqb (length fields) width e) refl

pub even_field-bad : (width : ℕ) (fields : List Text) → length fields ≢ width → even_field width fields ≡ None
even_field-bad width fields ne = rw (ne_eqb (length fields) width ne) refl

empty : (vs : List records.Row) → None ≡ slice_get vs 0 → names_of (first_fields (map records.fields_of vs)) ≡ Err NoItems
empty [] none = refl
empty (v ∷ vs) none = cc

begun : (vs : List records.Row) (first : records.Row) → Some first ≡ slice_get vs 0 → names_of (first_fields (map records.fields_of vs)) ≡ names_from [] (map (record_field (length (records.fields_of first))) vs)
begun [] first some = cc
begun (v ∷ vs) first some =
    let same : v ≡ first = cc in
    ap (λ rows. names_from [] (even_field (length (records.fields_of v)) (records.fields_of v) ∷ rows)) (map-map (even_field (length (records.fields_of v))) records.fields_of vs)
    ∙ ap (λ f. names_from [] (map (record_field (length (records.fields_of f))) (v ∷ vs))) same

module _ (bytes : List ℕ) (vs deref : List records.Row) (front : map records.fields_of vs ≡ take (PLACES + 1) (table_records bytes)) (same : deref ≡ vs) where
  table : names_of_table bytes ≡ names_of (first_fields (map records.fields_of deref))
  table = sym (names_of-take (PLACES + 1) (table_records bytes) (omega arith)) ∙ ap (λ t. names_of (first_fields t)) (sym front) ∙ ap (λ l. names_of (first_fields (map records.fields_of l))) (sym same)

  -- a table with no record
  pub table-none : None ≡ slice_get deref 0 → names_of_table bytes ≡ Err NoItems
  table-none none = table ∙ empty deref none

  -- a table with a first record
  pub table-begun : (first : records.Row) (items : List records.Row) → Some first ≡ slice_get deref 0 → items ≡ vs → names_of_table bytes ≡ names_from [] (map (record_field (length (records.fields_of first))) items)
  table-begun first items some is = table ∙ begun deref first some ∙ ap (λ l. names_from [] (map (record_field (length (records.fields_of first))) l)) (same ∙ sym is)
