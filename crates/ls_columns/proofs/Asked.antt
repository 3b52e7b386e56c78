-- The items q of the rules at some places, and of the rules that a kept set breaks.
use Rattle.ls_columns.proofs.Vocabulary.{ArePlaces, Bool, IsAsked, IsWithin, Items, List, Query, Some, [], add-one, and_from, and_parts, ap, append-nil, append_assoc, ap₂, arith, cases_eq, cond, drop, drop-cons, empty, eq-eqb, fallen_by, falls, false, filter, get_or, has, has-empty, has-with, inl, inr, is_at, is_same, joined, length, lt-ltb, ltb, ltb-true, map, meet, meets, members, most_items, nat_tests, not, or_cases, or_left, or_right, refl, same_set, same_truth, set_of, slice_get, suc, sym, true, true≢false, union, with, without, without-within, zero, ℕ, ◌&&◌, ◌++◌, ◌+◌, ◌<◌, ◌∙◌, ◌∷◌, ◌≡◌, ◌⊎◌}
use Rattle.ls_columns.proofs.Columned.{is_at-found}

-- ---- going over places

pub record Asking (rs : List Query) (places kept left asked : Items) : Type 0 where
  pub all : (j : ℕ) → IsAsked rs places kept j → (has asked j ≡ true) ⊎ IsAsked rs left kept j
  pub only : (j : ℕ) → has asked j ≡ true → IsAsked rs places kept j
  pub part : IsWithin left places

pub Asking-first : (rs : List Query) (places kept : Items) → Asking rs places kept places empty
Asking-first rs places kept = record { all = λ j a. inr a; only = λ j h. absurd (true≢false (sym h ∙ has-empty j)); part = λ j h. h }

-- what is asked at the place, or at those that are left
at_place : (rs : List Query) (kept left : Items) (place j : ℕ) (r : Query) → slice_get rs place ≡ Some r → (a : IsAsked rs left kept j) → ((r ≡ a.rule) ⊎ IsAsked rs (without left place) kept j)
at_place rs kept left place j r found a = elim (cases_eq a.place place) [
  | inl e ↦ inl (let same : Some r ≡ Some a.rule = sym found ∙ ap (slice_get rs) (sym e) ∙ a.found in cc)
  | inr n ↦ let there = a.among in inr (record { place = a.place; rule = a.rule; among = grind (arith, members, nat_tests); found = a.found; clear = a.clear; asked = a.asked; small = a.small })
]

pub Asking-asked : (rs : List Query) (places kept left asked : Items) (place : ℕ) (r : Query) → has left place ≡ true → slice_get rs place ≡ Some r → r.q < most_items → is_same (meet kept r.a) empty ≡ true
    → Asking rs places kept left asked → Asking rs places kept (without left place) (with asked r.q)
Asking-asked rs places kept left asked place r h found small clear a = record {
  all = λ j x. elim (a.all j x) [
    | inl y ↦ inl (has-with asked r.q j ∙ or_left (has asked j) _ y)
    | inr y ↦ elim (at_place rs kept left place j r found y) [
      | inl e ↦ inl (has-with asked r.q j ∙ or_right (has asked j) _ (eq-eqb j r.q (sym (ap (λ (r : Query). r.q) e ∙ y.asked))))
      | inr z ↦ inr z
    ]
  ];
  only = λ j x. elim (or_cases (has asked j) _ (sym (has-with asked r.q j) ∙ x)) [
    | inl y ↦ a.only j y
    | inr y ↦
        let e : j ≡ r.q = grind (arith, nat_tests) in
        record { place = place; rule = r; among = a.part place h; found = found; clear = clear; asked = sym e; small = rw e small }
  ];
  part = λ j x. a.part j (without-within left place j x);
}

pub Asking-passed : (rs : List Query) (places kept left asked : Items) (place : ℕ) (r : Query) → slice_get rs place ≡ Some r → (r.q < most_items → is_same (meet kept r.a) empty ≡ true → ⊥)
    → Asking rs places kept left asked → Asking rs places kept (without left place) asked
Asking-passed rs places kept left asked place r found never a = record {
  all = λ j x. elim (a.all j x) [
    | inl y ↦ inl y
    | inr y ↦ elim (at_place rs kept left place j r found y) [
      | inl e ↦ absurd (never (rw (e, y.asked) y.small) (rw e y.clear))
      | inr z ↦ inr z
    ]
  ];
  only = a.only;
  part = λ j x. a.part j (without-within left place j x);
}

pub Asking-done : (rs : List Query) (places kept left asked : Items) → left ≡ empty → Asking rs places kept left asked → (j : ℕ) → IsAsked rs places kept j → has asked j ≡ true
Asking-done rs places kept left asked e a j x = elim (a.all j x) [
  | inl y ↦ y
  | inr y ↦ absurd (true≢false (sym y.among ∙ ap (λ s. has s y.place) e ∙ has-empty y.place))
]

-- ---- the items of the rules that pass a test

abbrev items_of : (Query → Bool) → List Query → Items
items_of p rs = set_of (map (λ r. r.q) (filter p rs))

passing-here : (p : Query → Bool) (rs : List Query) (k : ℕ) (r : Query) → slice_get rs k ≡ Some r → p r ≡ true → has (items_of p rs) r.q ≡ true
passing-here p [] k r e h = cc
passing-here p (x ∷ rs) zero r e h =
    let same : x ≡ r = cc in
    rw (same, h) (has-with (items_of p rs) r.q r.q ∙ or_right (has (items_of p rs) r.q) _ (eq-eqb r.q r.q refl))
passing-here p (x ∷ rs) (suc k) r e h =
    let rest = passing-here p rs k r e h in
    elim (p x) as (λ b. has (set_of (map (λ (r : Query). r.q) (cond b (x ∷ filter p rs) (filter p rs)))) r.q ≡ true) [
      | true ↦ has-with (items_of p rs) x.q r.q ∙ or_left (has (items_of p rs) r.q) _ rest
      | false ↦ rest
    ]

-- a rule at a place that passes, with the item
record Passes (p : Query → Bool) (rs : List Query) (j : ℕ) : Type 0 where
  place : ℕ
  rule : Query
  found : slice_get rs place ≡ Some rule
  passes : p rule ≡ true
  asked : rule.q ≡ j

passing-from : (p : Query → Bool) (rs : List Query) (j : ℕ) → has (items_of p rs) j ≡ true → Passes p rs j
passing-from p [] j h = absurd (true≢false (sym h ∙ has-empty j))
passing-from p (x ∷ rs) j h =
    let later = λ (g : has (items_of p rs) j ≡ true). let r = passing-from p rs j g in let s : Passes p (x ∷ rs) j = record { place = suc r.place; rule = r.rule; found = r.found; passes = r.passes; asked = r.asked } in s in
    elim (p x) as (λ b. p x ≡ b → has (set_of (map (λ (r : Query). r.q) (cond b (x ∷ filter p rs) (filter p rs)))) j ≡ true → Passes p (x ∷ rs) j) [
      | true ↦ λ e g. elim (or_cases (has (items_of p rs) j) _ (sym (has-with (items_of p rs) x.q j) ∙ g)) [
        | inl y ↦ later y
        | inr y ↦ record { place = zero; rule = x; found = refl; passes = e; asked = (let same : x.q ≡ j = grind (arith, nat_tests) in same) }
      ]
      | false ↦ λ _ g. later g
    ] refl h

-- ---- the items that fall by the rules

falls-from : (fallen kept : Items) (r : Query) → falls fallen kept r ≡ true → (r.q < most_items) × (meets r.a fallen ≡ true) × (is_same (meet kept r.a) empty ≡ true)
falls-from fallen kept r h =
    let a = and_parts (ltb r.q most_items && meets r.a fallen) (is_same (meet kept r.a) empty) h in
    let b = and_parts (ltb r.q most_items) (meets r.a fallen) a.0 in
    (ltb-true r.q most_items b.0, b.1, a.1)

falls-to : (fallen kept : Items) (r : Query) → r.q < most_items → meets r.a fallen ≡ true → is_same (meet kept r.a) empty ≡ true → falls fallen kept r ≡ true
falls-to fallen kept r l m c =
    and_from (ltb r.q most_items && meets r.a fallen) (is_same (meet kept r.a) empty) (and_from (ltb r.q most_items) (meets r.a fallen) (lt-ltb r.q most_items l) m) c

-- where the places have the rules that fall, and none with no fallen item in A
exact : (rs : List Query) (fallen kept places asked : Items) → ((k : ℕ) (r : Query) → slice_get rs k ≡ Some r → has places k ≡ true → meets r.a fallen ≡ true)
    → ((k : ℕ) (r : Query) → slice_get rs k ≡ Some r → meets r.a fallen ≡ true → is_same (meet kept r.a) empty ≡ true → has places k ≡ true)
    → ((j : ℕ) → IsAsked rs places kept j → has asked j ≡ true) → ((j : ℕ) → has asked j ≡ true → IsAsked rs places kept j) → asked ≡ fallen_by rs fallen kept
exact rs fallen kept places asked only_these all_these all only = same_set asked (fallen_by rs fallen kept) (λ j. same_truth (has asked j) (has (fallen_by rs fallen kept) j)
    (λ h.
    let a = only j h in
    let passes = falls-to fallen kept a.rule (let small : a.rule.q < most_items = rw a.asked a.small in small) (only_these a.place a.rule a.found a.among) a.clear in
    subst_item a.rule.q j a.asked (passing-here (falls fallen kept) rs a.place a.rule a.found passes))
    (λ h.
    let b = passing-from (falls fallen kept) rs j h in
    let f = falls-from fallen kept b.rule b.passes in
    all j (record { place = b.place; rule = b.rule; among = all_these b.place b.rule b.found f.1 f.2; found = b.found; clear = f.2; asked = b.asked; small = (let small : j < most_items = rw (sym b.asked) f.0 in small) })))
  where
    subst_item : (i j : ℕ) → i ≡ j → has (fallen_by rs fallen kept) i ≡ true → has (fallen_by rs fallen kept) j ≡ true
    subst_item i j e h = rw (sym e) h

pub exact-few : (rs : List Query) (fallen kept places asked : Items) → ArePlaces (λ r. meets r.a fallen) rs places
    → ((j : ℕ) → IsAsked rs places kept j → has asked j ≡ true) → ((j : ℕ) → has asked j ≡ true → IsAsked rs places kept j) → asked ≡ fallen_by rs fallen kept
exact-few rs fallen kept places asked are all only = exact rs fallen kept places asked
    (λ k r e h. sym (is_at-found (λ r. meets r.a fallen) rs k r e) ∙ sym (are k) ∙ h)
    (λ k r e m _. are k ∙ is_at-found (λ r. meets r.a fallen) rs k r e ∙ m)
    all only

pub exact-many : (rs : List Query) (fallen kept first places asked : Items) → ArePlaces (λ r. meets r.a fallen) rs first → ((k : ℕ) → has places k ≡ (has first k && not (is_at (λ r. meets r.a kept) rs k)))
    → ((j : ℕ) → IsAsked rs places kept j → has asked j ≡ true) → ((j : ℕ) → has asked j ≡ true → IsAsked rs places kept j) → asked ≡ fallen_by rs fallen kept
exact-many rs fallen kept first places asked are less all only = exact rs fallen kept places asked
    (λ k r e h. sym (is_at-found (λ r. meets r.a fallen) rs k r e) ∙ sym (are k) ∙ (and_parts (has first k) (not (is_at (λ r. meets r.a kept) rs k)) (sym (less k) ∙ h)).0)
    (λ k r e m c.
    let out : is_at (λ r. meets r.a kept) rs k ≡ false = is_at-found (λ r. meets r.a kept) rs k r e ∙ ap not (ap (λ s. is_same s empty) (same_set (meet r.a kept) (meet kept r.a) (λ j. grind (arith, members))) ∙ c) in
    less k ∙ and_from (has first k) (not (is_at (λ r. meets r.a kept) rs k)) (are k ∙ is_at-found (λ r. meets r.a fallen) rs k r e ∙ m) (rw out refl))
    all only

-- a rule that a set of items breaks, with a fallen item in A, is one of these
pub fallen-here : (rs : List Query) (fallen kept : Items) (k : ℕ) (r : Query) → slice_get rs k ≡ Some r → r.q < most_items → meets r.a fallen ≡ true → is_same (meet kept r.a) empty ≡ true → has (fallen_by rs fallen kept) r.q ≡ true
fallen-here rs fallen kept k r e l m c = passing-here (falls fallen kept) rs k r e (falls-to fallen kept r l m c)

-- each of these is the item of a rule whose A has no kept item
pub fallen-from : (rs : List Query) (fallen kept : Items) (j : ℕ) → has (fallen_by rs fallen kept) j ≡ true → (k : ℕ) × (r : Query) × (slice_get rs k ≡ Some r) × (is_same (meet kept r.a) empty ≡ true) × (r.q ≡ j)
fallen-from rs fallen kept j h = let b = passing-from (falls fallen kept) rs j h in (b.place, b.rule, b.found, (falls-from fallen kept b.rule b.passes).2, b.asked)

-- ---- the rules of blocks

fallen_by-append : (rs ss : List Query) (fallen kept : Items) → fallen_by (rs ++ ss) fallen kept ≡ union (fallen_by rs fallen kept) (fallen_by ss fallen kept)
fallen_by-append [] ss fallen kept = same_set _ _ (λ j. grind (arith, members))
fallen_by-append (r ∷ rs) ss fallen kept =
    let p = falls fallen kept in
    let q = λ (r : Query). r.q in
    let rest = fallen_by-append rs ss fallen kept in
    elim (p r) as (λ b. set_of (map q (cond b (r ∷ filter p (rs ++ ss)) (filter p (rs ++ ss)))) ≡ union (set_of (map q (cond b (r ∷ filter p rs) (filter p rs)))) (fallen_by ss fallen kept)) [
      | true ↦ ap (λ s. with s r.q) rest ∙ same_set (with (union (fallen_by rs fallen kept) (fallen_by ss fallen kept)) r.q) (union (with (fallen_by rs fallen kept) r.q) (fallen_by ss fallen kept)) (λ j. grind (arith, members, nat_tests))
      | false ↦ rest
    ]

-- what is left of the blocks gives the whole
pub blocks-step : (blocks : List (List Query)) (i : ℕ) (b : List Query) (fallen kept broken all : Items) → i < length blocks → b ≡ get_or blocks i b → union broken (fallen_by (joined (drop i blocks)) fallen kept) ≡ all
    → union (union broken (fallen_by b fallen kept)) (fallen_by (joined (drop (i + 1) blocks)) fallen kept) ≡ all
blocks-step blocks i b fallen kept broken all l e h =
    let rest : drop i blocks ≡ b ∷ drop (i + 1) blocks = drop-cons blocks i b l ∙ ap₂ (λ x n. x ∷ drop n blocks) (sym e) (sym (add-one i)) in
    let parts = ap (λ bs. fallen_by (joined bs) fallen kept) rest ∙ fallen_by-append b (joined (drop (i + 1) blocks)) fallen kept in
    same_set (union (union broken (fallen_by b fallen kept)) (fallen_by (joined (drop (i + 1) blocks)) fallen kept)) (union broken (union (fallen_by b fallen kept) (fallen_by (joined (drop (i + 1) blocks)) fallen kept))) (λ j. grind (arith, members))
    ∙ ap (union broken) (sym parts) ∙ h

pub joined-push : (blocks : List (List Query)) (b left : List Query) → joined (blocks ++ b ∷ []) ++ left ≡ joined blocks ++ (b ++ left)
joined-push [] b left = ap (λ l. l ++ left) (append-nil b)
joined-push (x ∷ blocks) b left = append_assoc x (joined (blocks ++ b ∷ [])) left ∙ ap (λ l. x ++ l) (joined-push blocks b left) ∙ sym (append_assoc x (joined blocks) (b ++ left))
