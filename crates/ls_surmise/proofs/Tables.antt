-- Tables whose names are those of items: what is read of them step by step is what they are defined to give.
use Rattle.ls_surmise.proofs.Vocabulary.{◌&&◌, ◌∙◌, ◌∷◌, ◌≡◌, BadJson, Bool, Data, Err, List, Members, None, Ok, Option, Some, Table, Text, UnknownItem, Values, ℕ, [], and_parts, ap, ap₂, are_known, are_named, as_array, as_str, clauses_from, clauses_in, clauses_read, cond, false, is_known, is_some, is_table_named, item, list_all, map, no_items, object, option_and_then, option_map, option_map_or, read_all, read_clause, read_clauses, read_each, read_list, read_members, read_sets, read_table, refl, subst, sym, table_of, true, unwrap_or, value_of}
use Rattle.ls_domain.specs.Meanings.{is_named, items_of}
use Rattle.ls_files.proofs.RowTables.{IsTable, each-tested, each-under, no-table, no-value, of-table, some_same, table-from}

-- ---- values that are kept where they pass a test

abbrev kept : {X Y : Type 0} → (X → Bool) → (X → Y) → X → Option Y
kept p h x = cond (p x) (Some (h x)) None

kept-both : {Y : Type 0} (a b : Bool) (y : Y) (ys : List Y) → option_and_then (λ z. option_map (λ zs. z ∷ zs) (cond b (Some ys) None)) (cond a (Some y) None) ≡ cond (a && b) (Some (y ∷ ys)) None
kept-both true true y ys = refl
kept-both true false y ys = refl
kept-both false true y ys = refl
kept-both false false y ys = refl

module _ {X Y : Type 0} (f : Data → Option X) (p : X → Bool) (h : X → Y) where
  abbrev g : Data → Option Y
  g d = option_and_then (kept p h) (f d)

  pub each-kept : (ds : Values) (xs : List X) → read_each f ds ≡ Some xs → read_each g ds ≡ cond (list_all p xs) (Some (map h xs)) None
  each-kept no_items xs e = subst (λ ys. Some [] ≡ cond (list_all p ys) (Some (map h ys)) None) (some_same [] xs e) refl
  each-kept (item d ds) xs e = step (f d) (read_each f ds) refl refl e (λ ys b. each-kept ds ys b)
    where
      step : (o : Option X) (r : Option (List X)) → f d ≡ o → read_each f ds ≡ r → option_and_then (λ y. option_map (λ ys. y ∷ ys) r) o ≡ Some xs
          → ((ys : List X) → read_each f ds ≡ Some ys → read_each g ds ≡ cond (list_all p ys) (Some (map h ys)) None)
          → option_and_then (λ y. option_map (λ ys. y ∷ ys) (read_each g ds)) (option_and_then (kept p h) (f d)) ≡ cond (list_all p xs) (Some (map h xs)) None
      step None r a b z later = absurd (let y : None ≡ Some xs = z in cc)
      step (Some x) None a b z later = absurd (let y : None ≡ Some xs = z in cc)
      step (Some x) (Some ys) a b z later =
          subst (λ zs. option_and_then (λ y. option_map (λ ys. y ∷ ys) (read_each g ds)) (option_and_then (kept p h) (f d)) ≡ cond (list_all p zs) (Some (map h zs)) None) (some_same (x ∷ ys) xs z)
          (ap₂ (λ o r. option_and_then (λ y. option_map (λ ys. y ∷ ys) r) (option_and_then (kept p h) o)) a (later ys b)
          ∙ kept-both (p x) (list_all p ys) (h x) (map h ys))

-- ---- one row

sets-each : (names : List Text) (o : Option Values) (cs : List (List Text)) → option_and_then (read_each (read_list as_str)) o ≡ Some cs → option_and_then (read_each (read_clause names)) o ≡ cond (are_named names cs) (Some (map (items_of names) cs)) None
sets-each names None cs e = absurd (let y : None ≡ Some cs = e in cc)
sets-each names (Some ds) cs e = each-kept (read_list as_str) (list_all (is_named names)) (items_of names) ds cs e

-- the sets of a row are those of its texts, where these are names
sets-named : (names : List Text) (d : Data) (cs : List (List Text)) → read_clauses d ≡ Some cs → read_sets names d ≡ cond (are_named names cs) (Some (map (items_of names) cs)) None
sets-named names d cs e = sets-each names (as_array d) cs e

is_some-cond : {X : Type 0} (b : Bool) (x : X) → is_some (cond b (Some x) None) ≡ b
is_some-cond true x = refl
is_some-cond false x = refl

-- ---- all rows

known-named : (names : List Text) (ms : Members) (table : Table) → read_members read_clauses ms ≡ Some table → are_known names ms ≡ is_table_named names table
unfolding is_table_named
known-named names ms table e =
    each-tested read_clauses (λ k d. is_named names k && is_some (read_sets names d)) (are_known names) (λ row. is_named names row.0 && are_named names row.1) refl (λ k d ms. refl)
    (λ k d cs e. ap (λ b. is_named names k && b) (ap is_some (sets-named names d cs e) ∙ is_some-cond (are_named names cs) (map (items_of names) cs))) ms table e

all-rows : (names : List Text) (ms : Members) (table : Table) → read_members read_clauses ms ≡ Some table → is_table_named names table ≡ true → read_all names (object ms) ≡ clauses_in names table
unfolding clauses_in is_table_named
all-rows names ms table e named =
    each-under read_clauses (λ row. is_named names row.0 && are_named names row.1) (λ o. unwrap_or (option_and_then (read_sets names) o) []) (λ o. map (items_of names) (option_map_or (λ row. row) o [])) refl
    (λ k d cs e a. ap (λ o. unwrap_or o []) (sets-named names d cs e ∙ ap (λ b. cond b (Some (map (items_of names) cs)) None) (and_parts (is_named names k) (are_named names cs) a).1)) names ms table e named

-- ---- the whole file

pub no_value : (names : List Text) (bytes : List ℕ) → value_of bytes ≡ None → clauses_read names bytes ≡ Err BadJson
unfolding table_of
no_value names bytes e = no-value read_clauses (clauses_from names) (Err BadJson) bytes e

pub no_table : (names : List Text) (bytes : List ℕ) (d : Data) → value_of bytes ≡ Some d → is_some (read_table d) ≡ false → clauses_read names bytes ≡ Err BadJson
unfolding table_of
no_table names bytes d e h = no-table read_clauses (clauses_from names) (Err BadJson) bytes d e h

-- a table is told by its names and its clauses
told : (names : List Text) (bytes : List ℕ) (d : Data) (b : Bool) → value_of bytes ≡ Some d → (t : IsTable read_clauses d) → is_known names d ≡ b
    → (is_table_named names t.table ≡ b) × (clauses_read names bytes ≡ cond b (Ok (clauses_in names t.table)) (Err UnknownItem))
unfolding table_of
told names bytes d b e t h =
    let same : is_table_named names t.table ≡ b = sym (known-named names t.members t.table t.of_members) ∙ ap (is_known names) (sym t.is) ∙ h in
    (same, of-table read_clauses (clauses_from names) (Err BadJson) bytes d e t ∙ ap (λ a. cond a (Ok (clauses_in names t.table)) (Err UnknownItem)) same)

pub not_known : (names : List Text) (bytes : List ℕ) (d : Data) → value_of bytes ≡ Some d → is_some (read_table d) ≡ true → is_known names d ≡ false → clauses_read names bytes ≡ Err UnknownItem
not_known names bytes d e h known = (told names bytes d false e (table-from read_clauses d h) known).1

pub all_known : (names : List Text) (bytes : List ℕ) (d : Data) → value_of bytes ≡ Some d → is_some (read_table d) ≡ true → is_known names d ≡ true → clauses_read names bytes ≡ Ok (read_all names d)
all_known names bytes d e h known =
    let t = table-from read_clauses d h in
    let k = told names bytes d true e t known in
    k.1 ∙ ap Ok (sym (all-rows names t.members t.table t.of_members k.0) ∙ ap (read_all names) (sym t.is))
