-- The names of a set's items are read as the set.
use Rattle.ls_domain.proofs.Vocabulary.{◌+◌, ◌<◌, ◌∙◌, ◌∷◌, ◌≡◌, ◌≤◌, All-given, All-kept, AllByRecursion, IsDistinct, IsWithin, Items, List, None, Text, ℕ, [], and_from, and_parts, ap, ap₂, arith, bound, bytes_eq, cases_lt, cond, false, filter, first_unnamed, full, has, has-full, inl, inr, is_named, is_some-position, item_of, items, items_of, le-leb, le-ltb, length, list_all, list_any, lt-ltb, ltb-true, map, meet, members, name_of, names_of_set, nat_tests, not, nothing, numbers_from, refl, same_set, set_of, suc, sym, true, zero, zero-add}
use Rattle.ls_set.proofs.Ascending.{has-above}
use Rattle.ls_set.proofs.Cursors.{has-set_of-filter}
use Rattle.ls_set.proofs.Sizes.{items-within}
use Rattle.ls_domain.proofs.Numbers.{number_of-name_of, item_of-some, is_named-some}

-- the items of a set of items below n are below n
pub items-below : (n : ℕ) (c : Items) → IsWithin c (full n) → AllByRecursion (λ i. i < n) (items c)
unfolding items
items-below n c within =
    All-kept (λ i. i < n) (has c) (numbers_from 0 (bound c)) (All-given (λ i. has c i ≡ true → i < n) (λ i h. ltb-true i n (sym (has-full n i) ∙ within i h)) (numbers_from 0 (bound c)))

-- those of n items that a set has
kept-met : (n : ℕ) (s : Items) (i m : ℕ) → i + m ≤ n
    → filter (has (meet s (full n))) (numbers_from i m) ≡ filter (has s) (numbers_from i m)
kept-met n s i zero h = refl
kept-met n s i (suc m) h =
    let here : has (meet s (full n)) i ≡ has s i = grind (arith, members, nat_tests) in
    ap₂ (λ b l. cond b (i ∷ l) l) here (kept-met n s (suc i) m (omega arith))

-- the names of a set are those of its items, where these are items of the domain
pub names_of_set-within : (names : List Text) (s : Items) → IsWithin s (full (length names))
    → names_of_set names s ≡ map (name_of names) (items s)
unfolding names_of_set
names_of_set-within names s within =
    ap (map (name_of names)) (sym (items-within s (length names) within))

-- and of any set, those of the items that it shares with the domain
pub names_of_set-met : (names : List Text) (s : Items)
    → map (name_of names) (items (meet s (full (length names)))) ≡ names_of_set names s
unfolding names_of_set
names_of_set-met names s =
    let n = length names in
    let small : IsWithin (meet s (full n)) (full n) = λ i h. grind (arith, members, h) in
    ap (map (name_of names))
    (items-within (meet s (full n)) n small ∙ kept-met n s 0 n (omega arith))

-- the set of a set's items is that set
set_of-items : (c : Items) → set_of (items c) ≡ c
unfolding items
set_of-items c = same_set (set_of (items c)) c (λ i.
    has-set_of-filter (has c) 0 (bound c) i
    ∙ elim (cases_lt i (bound c)) [
      | inl l ↦ rw (le-leb 0 i (omega arith), zero-add, lt-ltb i (bound c) l) refl
      | inr l ↦ rw (le-leb 0 i (omega arith), zero-add, le-ltb i (bound c) l, has-above c i l) refl
    ])

-- where all words are names, none is the first that isn't
all_known : (names ws : List Text) → list_all (is_named names) ws ≡ true → list_any (λ w. not (is_named names w)) ws ≡ false
all_known names [] h = refl
all_known names (w ∷ ws) h = let p = and_parts (is_named names w) (list_all (is_named names) ws) h in rw p.0 (all_known names ws p.1)

first_unnamed-none : (names ws : List Text) → list_all (is_named names) ws ≡ true → first_unnamed names ws ≡ None
first_unnamed-none names ws h = nothing (first_unnamed names ws) (is_some-position (λ w. not (is_named names w)) ws ∙ all_known names ws h)

module _ (names : List Text) (distinct : IsDistinct bytes_eq names) where
  numbers-back : (is : List ℕ) → AllByRecursion (λ i. i < length names) is → map (item_of names) (map (name_of names) is) ≡ is
  numbers-back [] h = refl
  numbers-back (i ∷ is) h = ap₂ (λ j js. j ∷ js) (item_of-some names (name_of names i) i (number_of-name_of names i distinct h.0)) (numbers-back is h.1)

  pub set-back : (c : Items) → IsWithin c (full (length names)) → items_of names (names_of_set names c) ≡ c
  set-back c within =
      ap (items_of names) (names_of_set-within names c within)
      ∙ ap set_of (numbers-back (items c) (items-below (length names) c within)) ∙ set_of-items c

  names-named : (is : List ℕ) → AllByRecursion (λ i. i < length names) is → list_all (is_named names) (map (name_of names) is) ≡ true
  names-named [] h = refl
  names-named (i ∷ is) h =
      and_from (is_named names (name_of names i)) (list_all (is_named names) (map (name_of names) is)) (is_named-some names (name_of names i) i (number_of-name_of names i distinct h.0)) (names-named is h.1)

  pub set-named : (c : Items) → IsWithin c (full (length names)) → list_all (is_named names) (names_of_set names c) ≡ true
  set-named c within =
      ap (list_all (is_named names)) (names_of_set-within names c within)
      ∙ names-named (items c) (items-below (length names) c within)

  pub set-all_named : (c : Items) → IsWithin c (full (length names)) → first_unnamed names (names_of_set names c) ≡ None
  set-all_named c within = first_unnamed-none names (names_of_set names c) (set-named c within)
