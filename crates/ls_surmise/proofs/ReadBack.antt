-- What is printed of a surmise function is read as the same function.
use Rattle.ls_surmise.proofs.Vocabulary.{◌&&◌, ◌∙◌, ◌∷◌, ◌≡◌, ◌≤◌, AllByRecursion, Clauses, IsDistinct, IsDomain, IsInOrder, IsInOrder-filter, AreOn, IsSurmise, Items, List, None, Ok, Text, ℕ, [], all-small, all_clauses, among-filter, among-here, among-subsets, among-there, and_from, and_parts, ap, ap₂, are_named, base, base-ordered, clauses_in, clauses_of, compat, each, full, in_order, is_among, is_table_named, is_within-from, le-ltb, length, list_all, map, most_base_sets, names_of_set, option_map_or, refl, same_members, same_truth, subsets, subsets_from-in_order, subst, suc, surmise-flawless, surmise_from, surmise_of, surmise_text, sym, true, wide}
use Rattle.std.specs.Str.{bytes_eq}
use Rattle.std.proofs.lemmas.List.{length-map}
use Rattle.ls_domain.specs.Meanings.{is_named, items_of}
use Rattle.ls_domain.proofs.NamedSets.{set-back, set-named}
use Rattle.ls_lists.proofs.Every.{All-map}
use Rattle.ls_files.proofs.RowTables.{all-named, rows-back, rows-pass, table_of_rows}
use Rattle.ls_surmise.proofs.SurmiseValues.{row_of, rows_of, table-back}

-- ---- the clauses of an item by their names

module _ (names : List Text) (distinct : IsDistinct bytes_eq names) where
  row-back : (own : List Items) → AreOn (length names) own → map (items_of names) (row_of names own) ≡ own
  row-back [] small = refl
  row-back (c ∷ own) small =
      ap₂ (λ d ds. d ∷ ds) (set-back names distinct c (small c (among-here c c own refl))) (row-back own (λ k a. small k (among-there k c own a)))

  row-named : (own : List Items) → AreOn (length names) own → are_named names (row_of names own) ≡ true
  row-named [] small = refl
  row-named (c ∷ own) small =
      and_from (list_all (is_named names) (names_of_set names c)) (are_named names (row_of names own)) (set-named names distinct c (small c (among-here c c own refl))) (row-named own (λ k a. small k (among-there k c own a)))

  rows-back-all : (clauses : List (List Items)) → AllByRecursion (AreOn (length names)) clauses → map (map (items_of names)) (rows_of names clauses) ≡ clauses
  rows-back-all [] small = refl
  rows-back-all (own ∷ clauses) small = ap₂ (λ x xs. x ∷ xs) (row-back own small.0) (rows-back-all clauses small.1)

  table-named : (clauses : List (List Items)) → AllByRecursion (AreOn (length names)) clauses → is_table_named names (table_of_rows names (rows_of names clauses)) ≡ true
  unfolding is_table_named
  table-named clauses small =
      rows-pass (λ row. is_named names row.0 && are_named names row.1) (λ w. is_named names w ≡ true) (λ row. are_named names row ≡ true) (λ w row a b. and_from (is_named names w) (are_named names row) a b)
      names (rows_of names clauses) (all-named names) (All-map (λ row. are_named names row ≡ true) (row_of names) clauses (each row-named clauses small))

-- ---- the clauses

-- what holds of the clauses of each number
each-clauses : (P : List Items → Type 0) (clauses : List (List Items)) → ((q : ℕ) → P (clauses_of clauses q)) → AllByRecursion P clauses
each-clauses P [] h = tt
each-clauses P (own ∷ clauses) h = (h 0, each-clauses P clauses (λ q. h (suc q)))

among-in_order : (n : ℕ) (own : List Items) → AreOn n own → (k : Items) → is_among (in_order n own) k ≡ is_among own k
among-in_order n own small k =
    same_truth (is_among (in_order n own) k) (is_among own k)
    (λ h. (and_parts (is_among (subsets n) k) (is_among own k) (sym (among-filter (is_among own) (subsets n) k) ∙ h)).1)
    (λ h. among-filter (is_among own) (subsets n) k ∙ and_from (is_among (subsets n) k) (is_among own k) (among-subsets n k ∙ is_within-from k (full n) (small k h)) h)

ordered : (n : ℕ) (own : List Items) → IsInOrder (in_order n own)
ordered n own = IsInOrder-filter (is_among own) (subsets n) (subsets_from-in_order 0 n)

-- sets in order stay as they are
in_order-again : (n : ℕ) (own : List Items) → AreOn n own → IsInOrder own → in_order n own ≡ own
in_order-again n own small order = same_members (in_order n own) own (ordered n own) order (λ k h. sym (among-in_order n own small k) ∙ h) (λ k h. among-in_order n own small k ∙ h)

all-again : (n : ℕ) (clauses : List (List Items)) → AllByRecursion (AreOn n) clauses → AllByRecursion IsInOrder clauses → map (in_order n) clauses ≡ clauses
all-again n [] small order = refl
all-again n (own ∷ clauses) small order = ap₂ (λ x xs. x ∷ xs) (in_order-again n own small.0 order.0) (all-again n clauses small.1 order.1)

none-wide : (n : ℕ) (clauses : List (List Items)) → IsSurmise n clauses → length (base (compat n (Clauses clauses) [])) ≤ most_base_sets → wide n clauses ≡ None
none-wide n clauses surmise few =
    let all = all_clauses clauses in
    let same = base-ordered n clauses (in_order n all) surmise (ordered n all) (among-in_order n all (all-small n clauses surmise)) in
    rw (le-ltb most_base_sets (length (in_order n all)) (subst (λ sets. length sets ≤ most_base_sets) same few)) refl

from-again : (n : ℕ) (clauses : List (List Items)) → IsSurmise n clauses → length (base (compat n (Clauses clauses) [])) ≤ most_base_sets → surmise_from n clauses ≡ Ok clauses
unfolding surmise_from
from-again n clauses surmise few =
    rw (surmise-flawless n clauses surmise, none-wide n clauses surmise few)
    (ap Ok (all-again n clauses (each-clauses (AreOn n) clauses surmise.small) (each-clauses IsInOrder clauses surmise.in_order)))

-- ---- the whole

pub surmise-back : (names : List Text) (clauses : List (List Items)) → IsDomain names → IsSurmise (length names) clauses → length (base (compat (length names) (Clauses clauses) [])) ≤ most_base_sets → surmise_of names (surmise_text names clauses) ≡ Ok clauses
unfolding surmise_of clauses_in
surmise-back names clauses domain surmise few =
    let n = length names in
    let distinct = domain.are_names.distinct in
    let small = each-clauses (AreOn n) clauses surmise.small in
    rw (table-back names clauses domain.are_names.named, table-named names distinct clauses small)
    (ap (surmise_from n)
    (rows-back (λ o. map (items_of names) (option_map_or (λ row. row) o [])) names (rows_of names clauses) (sym surmise.each_item ∙ sym (length-map clauses (row_of names))) distinct ∙ rows-back-all names distinct clauses small)
    ∙ from-again n clauses surmise few)
