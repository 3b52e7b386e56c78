-- The surmise function of a file, step by step; and the items that a fault names.
use Rattle.ls_surmise.proofs.Vocabulary.{◌&&◌, ◌<◌, ◌∙◌, ◌∷◌, ◌≡◌, BadJson, BaseState, Bool, Comparable, Err, AreOn, IsSurmiseFaultOf, IsSurmiseOf, IsWideOf, IsWithin, Items, List, Memory, NoClause, None, NotClosed, Ok, Option, Reflexive, Result, Some, SurmiseFault, Table, Text, UnknownItem, Wide, ℕ, [], all_clauses, among-append, among-cases, and_parts, ap, are_named, base, bytes_eq, clauses_from, clauses_in, clauses_read, cond, empty-within, false, family, flaw, full, in_order, inl, inr, is_among, is_some, is_some-position, is_table_named, item_of-some, items, length, list_all, lookup, map, option_map_or, option_or, or_cases, position-lt, refl, result_ok, row_under, spanned, subst, suc, surmise_from, surmise_in, surmise_of, sym, table_of, true, true≢false, wide, with-within}
use Rattle.std.specs.Prelude.{unwrap_or}
use Rattle.ls_domain.specs.Meanings.{is_named, number_of, item_of, items_of}
use Rattle.ls_surmise.proofs.Orderings.{put-surmise}

-- ---- from what is read

abbrev then : List Text → Result (List (List Items)) SurmiseFault → Result (List (List Items)) SurmiseFault
then names (Ok clauses) = surmise_from (length names) clauses
then names (Err fault) = Err fault

surmise-then : (names : List Text) (bytes : List ℕ) → surmise_of names bytes ≡ then names (clauses_read names bytes)
unfolding surmise_of
surmise-then names bytes = step (table_of bytes)
  where
    tested : (b : Bool) (clauses : List (List Items)) → cond b (surmise_from (length names) clauses) (Err UnknownItem) ≡ then names (cond b (Ok clauses) (Err UnknownItem))
    tested true clauses = refl
    tested false clauses = refl

    step : (o : Option Table) → option_map_or (surmise_in names) o (Err BadJson) ≡ then names (option_map_or (clauses_from names) o (Err BadJson))
    step None = refl
    step (Some table) = tested (is_table_named names table) (clauses_in names table)

pub of_clauses : (names : List Text) (bytes : List ℕ) (clauses : List (List Items)) → clauses_read names bytes ≡ Ok clauses → surmise_of names bytes ≡ surmise_from (length names) clauses
of_clauses names bytes clauses e = surmise-then names bytes ∙ ap (then names) e

-- a fault of the form is one of the file
pub form-fault : (names : List Text) (bytes : List ℕ) (fault : SurmiseFault) → IsSurmiseFaultOf (clauses_read names bytes) fault → IsSurmiseFaultOf (surmise_of names bytes) fault
form-fault names bytes BadJson e = surmise-then names bytes ∙ ap (then names) e
form-fault names bytes UnknownItem e = surmise-then names bytes ∙ ap (then names) e
form-fault names bytes (NoClause q) e = surmise-then names bytes ∙ ap (then names) e
form-fault names bytes (Reflexive q j) e = surmise-then names bytes ∙ ap (then names) e
form-fault names bytes (NotClosed q j r) e = surmise-then names bytes ∙ ap (then names) e
form-fault names bytes (Comparable q i j) e = surmise-then names bytes ∙ ap (then names) e
form-fault names bytes (Wide m) e = surmise-then names bytes ∙ ap (then names) e
form-fault names bytes (Memory e) h = tt

pub of_flaw : (n : ℕ) (clauses : List (List Items)) (fault : SurmiseFault) → flaw n clauses ≡ Some fault → surmise_from n clauses ≡ Err fault
unfolding surmise_from
of_flaw n clauses fault e = ap (λ o. option_map_or Err (option_or o (wide n clauses)) (Ok (map (in_order n) clauses))) e

pub fault-from : {X : Type 0} (r : Result X SurmiseFault) (fault : SurmiseFault) → r ≡ Err fault → IsSurmiseFaultOf r fault
fault-from r BadJson e = e
fault-from r UnknownItem e = e
fault-from r (NoClause q) e = e
fault-from r (Reflexive q j) e = e
fault-from r (NotClosed q j s) e = e
fault-from r (Comparable q i j) e = e
fault-from r (Wide m) e = e
fault-from r (Memory f) e = tt

of_both : (n : ℕ) (clauses : List (List Items)) (o : Option SurmiseFault) → flaw n clauses ≡ None → wide n clauses ≡ o → surmise_from n clauses ≡ option_map_or Err o (Ok (map (in_order n) clauses))
unfolding surmise_from
of_both n clauses o e w = ap (λ p. option_map_or Err (option_or p (wide n clauses)) (Ok (map (in_order n) clauses))) e ∙ ap (λ p. option_map_or Err p (Ok (map (in_order n) clauses))) w

pub of_none : (n : ℕ) (clauses : List (List Items)) → flaw n clauses ≡ None → wide n clauses ≡ None → surmise_from n clauses ≡ Ok (map (in_order n) clauses)
of_none n clauses e w = of_both n clauses None e w

pub wide-fault : (n : ℕ) (clauses : List (List Items)) (fault : SurmiseFault) → flaw n clauses ≡ None → IsWideOf (wide n clauses) fault → IsSurmiseFaultOf (surmise_from n clauses) fault
wide-fault n clauses BadJson e w = of_both n clauses (Some BadJson) e w
wide-fault n clauses UnknownItem e w = of_both n clauses (Some UnknownItem) e w
wide-fault n clauses (NoClause q) e w = of_both n clauses (Some (NoClause q)) e w
wide-fault n clauses (Reflexive q j) e w = of_both n clauses (Some (Reflexive q j)) e w
wide-fault n clauses (NotClosed q j r) e w = of_both n clauses (Some (NotClosed q j r)) e w
wide-fault n clauses (Comparable q i j) e w = of_both n clauses (Some (Comparable q i j)) e w
wide-fault n clauses (Wide m) e w = of_both n clauses (Some (Wide m)) e w
wide-fault n clauses (Memory e) h w = tt

-- ---- what is read

clause-on : (names ws : List Text) → list_all (is_named names) ws ≡ true → IsWithin (items_of names ws) (full (length names))
clause-on names [] h = empty-within (full (length names))
clause-on names (w ∷ ws) h =
    let p = and_parts (is_named names w) (list_all (is_named names) ws) h in
    with-within (items_of names ws) (item_of names w) (length names) (clause-on names ws p.1) (below (number_of names w) refl (is_some-position (bytes_eq w) names ∙ p.0))
  where
    below : (o : Option ℕ) → number_of names w ≡ o → is_some (number_of names w) ≡ true → item_of names w < length names
    below None e s = absurd (true≢false (sym s ∙ ap is_some e))
    below (Some i) e s = subst (λ k. k < length names) (sym (item_of-some names w i e)) (position-lt (bytes_eq w) names i e)

pub clauses-on : (names : List Text) (wss : List (List Text)) → are_named names wss ≡ true → AreOn (length names) (map (items_of names) wss)
clauses-on names [] h k c = absurd (true≢false (sym c))
clauses-on names (ws ∷ wss) h k c =
    let p = and_parts (list_all (is_named names) ws) (are_named names wss) h in
    elim (among-cases k (items_of names ws) (map (items_of names) wss) c) [
      | inl e ↦ subst (λ s. IsWithin s (full (length names))) (sym e) (clause-on names ws p.0)
      | inr d ↦ clauses-on names wss p.1 k d
    ]

pub row-named : (names : List Text) (table : Table) (w : Text) → list_all (λ row. is_named names row.0 && are_named names row.1) table ≡ true → are_named names (row_under table w) ≡ true
row-named names [] w h = refl
row-named names (row ∷ table) w h = step (bytes_eq w row.0) (and_parts (is_named names row.0) (are_named names row.1) p.0).1 (row-named names table w p.1)
  where
    p : ((is_named names row.0 && are_named names row.1) ≡ true) × (list_all (λ row. is_named names row.0 && are_named names row.1) table ≡ true)
    p = and_parts (is_named names row.0 && are_named names row.1) (list_all (λ row. is_named names row.0 && are_named names row.1) table) h

    step : (b : Bool) → are_named names row.1 ≡ true → are_named names (row_under table w) ≡ true → are_named names (option_map_or (λ r. r) (cond b (Some row.1) (lookup (bytes_eq w) table)) []) ≡ true
    step true here later = here
    step false here later = later

all-on : (n : ℕ) (h : Text → List Items) → ((w : Text) → AreOn n (h w)) → (ws : List Text) → AreOn n (all_clauses (map h ws))
all-on n h each [] k c = absurd (true≢false (sym c))
all-on n h each (w ∷ ws) k c =
    elim (or_cases (is_among (h w) k) (is_among (all_clauses (map h ws)) k) (sym (among-append (h w) (all_clauses (map h ws)) k) ∙ c)) [
      | inl a ↦ each w k a
      | inr b ↦ all-on n h each ws k b
    ]

same_Ok : {X : Type 0} (x y : X) → ◌≡◌ {A = Result X SurmiseFault} (Ok x) (Ok y) → x ≡ y
same_Ok x y e = ap (λ r. unwrap_or (result_ok r) x) e

record IsReadFrom (names : List Text) (clauses : List (List Items)) : Type 0 where
  table : Table
  named : is_table_named names table ≡ true
  is : clauses_in names table ≡ clauses

read-from : (names : List Text) (bytes : List ℕ) (clauses : List (List Items)) → clauses_read names bytes ≡ Ok clauses → IsReadFrom names clauses
read-from names bytes clauses e = step (table_of bytes) e
  where
    tested : (table : Table) (b : Bool) → is_table_named names table ≡ b → cond b (Ok (clauses_in names table)) (Err UnknownItem) ≡ Ok clauses → IsReadFrom names clauses
    tested table true t e = record { table = table; named = t; is = same_Ok (clauses_in names table) clauses e }
    tested table false t e = absurd (let z : Err UnknownItem ≡ Ok clauses = e in cc)

    step : (o : Option Table) → option_map_or (clauses_from names) o (Err BadJson) ≡ Ok clauses → IsReadFrom names clauses
    step None e = absurd (let z : Err BadJson ≡ Ok clauses = e in cc)
    step (Some table) e = tested table (is_table_named names table) refl e

length-mapped : {X Y : Type 0} (h : X → Y) (xs : List X) → length (map h xs) ≡ length xs
length-mapped h [] = refl
length-mapped h (x ∷ xs) = ap suc (length-mapped h xs)

pub read-each : (names : List Text) (bytes : List ℕ) (clauses : List (List Items)) → clauses_read names bytes ≡ Ok clauses → length clauses ≡ length names
unfolding clauses_in
read-each names bytes clauses e =
    let r = read-from names bytes clauses e in
    ap length (sym r.is) ∙ length-mapped (λ w. map (items_of names) (row_under r.table w)) names

pub read-on : (names : List Text) (bytes : List ℕ) (clauses : List (List Items)) → clauses_read names bytes ≡ Ok clauses → AreOn (length names) (all_clauses clauses)
unfolding clauses_in is_table_named
read-on names bytes clauses e =
    let r = read-from names bytes clauses e in
    subst (λ (cs : List (List Items)). AreOn (length names) (all_clauses cs)) r.is
    (all-on (length names) (λ w. map (items_of names) (row_under r.table w)) (λ w. clauses-on names (row_under r.table w) (row-named names r.table w r.named)) names)

-- ---- what is made of clauses

pub made : (n : ℕ) (clauses put : List (List Items)) (b : BaseState) → length clauses ≡ n → AreOn n (all_clauses clauses) → flaw n clauses ≡ None
    → b.item_count ≡ n → family b ≡ spanned n (all_clauses clauses) → base (family b) ≡ b.sets → ((m : ℕ) → AreOn m (all_clauses clauses) → put ≡ map (in_order m) clauses) → IsSurmiseOf b put
made n clauses put b each small none items members is_base is =
    subst (λ (cs : List (List Items)). IsSurmiseOf b cs) (sym (is n small)) (put-surmise n clauses b each small none items members is_base)
