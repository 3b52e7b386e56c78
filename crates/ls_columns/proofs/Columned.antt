-- Columns: the places of the rules that have an item in A.
use Rattle.ls_columns.proofs.Vocabulary.{AreColumns, ArePlaces, Bool, Decides-is_same, IsWithin, Items, List, None, Option, Query, Some, [], and-false, and_from, ap, arith, cases_Bool, cases_eq, common_item, cond, empty, false, false_from_ne_true, get_or, get_or-replicate, get_or-set_other, get_or-set_same, get_or_default, has, has-empty, has-meet, has-minus, has-union, inl, inr, is_at, is_same, length, length-replicate, length-set, meet, meets, members, minus, most_items, nat_tests, not, not-true, not_from_false, option_map_or, or-false, or_assoc, refl, replicate, same_set, set, set_at, slice_get, suc, sym, true, true≢false, union, with, without, zero, ℕ, ◌&&◌, ◌++◌, ◌<◌, ◌||◌, ◌∙◌, ◌∷◌, ◌≡◌, ◌≢◌, ◌≤◌}

-- ---- items in common

pub meets-to : (s t : Items) (i : ℕ) → has s i ≡ true → has t i ≡ true → meets s t ≡ true
meets-to s t i a b = not_from_false (is_same (meet s t) empty) (false_from_ne_true (is_same (meet s t) empty) (λ e.
    true≢false (sym (has-meet s t i ∙ and_from (has s i) (has t i) a b) ∙ ap (λ u. has u i) ((Decides-is_same (meet s t) empty).0 e) ∙ has-empty i)))

pub meets-item : (s t : Items) → meets s t ≡ true → (i : ℕ) × (has s i ≡ true) × (has t i ≡ true)
meets-item s t h = common_item s t (not-true (is_same (meet s t) empty) h)

meets-none : (s : Items) → meets s empty ≡ false
meets-none s = false_from_ne_true (meets s empty) (λ h. let x = meets-item s empty h in true≢false (sym x.2 ∙ has-empty x.0))

-- one of the items, or one of the others
meets-step : (a left : Items) (i : ℕ) → has left i ≡ true → meets a left ≡ (has a i || meets a (without left i))
meets-step a left i h = elim (cases_Bool (has a i)) [
  | inl x ↦ rw x (meets-to a left i x h)
  | inr x ↦
      let same : meet a left ≡ meet a (without left i) = same_set (meet a left) (meet a (without left i)) (λ j. elim (cases_eq j i) [
        | inl e ↦ rw e (grind (arith, members, nat_tests))
        | inr n ↦ grind (arith, members, nat_tests)
      ]) in
      rw x (ap (λ s. not (is_same s empty)) same)
]

-- ---- the rule at a place

pub is_at-bound : (p : Query → Bool) (rs : List Query) (k : ℕ) → is_at p rs k ≡ true → k < length rs
is_at-bound p [] k h = absurd (true≢false (sym h))
is_at-bound p (r ∷ rs) zero h = omega arith
is_at-bound p (r ∷ rs) (suc k) h = let rest = is_at-bound p rs k h in omega arith

is_at-past : (p : Query → Bool) (rs : List Query) (k : ℕ) → length rs ≤ k → is_at p rs k ≡ false
is_at-past p rs k l = false_from_ne_true (is_at p rs k) (λ h. let b = is_at-bound p rs k h in absurd (omega arith))

is_at-last : (p : Query → Bool) (rs : List Query) (r : Query) → is_at p (rs ++ r ∷ []) (length rs) ≡ p r
is_at-last p [] r = refl
is_at-last p (x ∷ rs) r = is_at-last p rs r

is_at-other : (p : Query → Bool) (rs : List Query) (r : Query) (k : ℕ) → k ≢ length rs → is_at p (rs ++ r ∷ []) k ≡ is_at p rs k
is_at-other p [] r zero n = absurd (n refl)
is_at-other p [] r (suc k) n = refl
is_at-other p (x ∷ rs) r zero n = refl
is_at-other p (x ∷ rs) r (suc k) n = is_at-other p rs r k (λ e. n (ap suc e))

pub is_at-found : (p : Query → Bool) (rs : List Query) (k : ℕ) (r : Query) → slice_get rs k ≡ Some r → is_at p rs k ≡ p r
is_at-found p rs k r e = ap (λ o. option_map_or p o false) e

-- ---- putting a place into the columns of a set

pub record Putting (old now : List Items) (whole left : Items) (place : ℕ) : Type 0 where
  pub put : (i : ℕ) → i < most_items → set_at now i ≡ cond (has whole i && not (has left i)) (with (set_at old i) place) (set_at old i)
  pub part : IsWithin left whole
  pub count : length now ≡ most_items

pub Putting-first : (columns : List Items) (whole : Items) (place : ℕ) → length columns ≡ most_items → Putting columns columns whole whole place
Putting-first columns whole place l = record {
  put = λ i _. elim (has whole i) as (λ b. set_at columns i ≡ cond (b && not b) (with (set_at columns i) place) (set_at columns i)) [ true ↦ refl | false ↦ refl ];
  part = λ i h. h;
  count = l;
}

pub Putting-more : (old now next : List Items) (whole left : Items) (place i : ℕ) → i < most_items → has left i ≡ true → next ≡ set now i (with (set_at now i) place) → Putting old now whole left place
    → Putting old next whole (without left i) place
Putting-more old now next whole left place i small h e p = record {
  put = λ j l. elim (cases_eq j i) [
    | inl q ↦
        let here : set_at next i ≡ with (set_at now i) place = ap (λ c. set_at c i) e ∙ get_or-set_same now i (with (set_at now i) place) empty (let b : i < length now = rw p.count small in b) in
        let before : set_at now i ≡ set_at old i = p.put i small ∙ ap (λ b. cond b (with (set_at old i) place) (set_at old i)) (let none : (has whole i && not (has left i)) ≡ false = rw h (and-false (has whole i)) in none) in
        let gone : has (without left i) i ≡ false = grind (arith, members, nat_tests) in
        rw (q, p.part i h, gone) (here ∙ ap (λ s. with s place) before)
    | inr n ↦
        let here : set_at next j ≡ set_at now j = ap (λ c. set_at c j) e ∙ get_or-set_other now i j (with (set_at now i) place) empty n in
        let same_left : has (without left i) j ≡ has left j = grind (arith, members, nat_tests) in
        rw same_left (here ∙ p.put j l)
  ];
  part = λ j x. p.part j (let y : has left j ≡ true = grind (arith, members, nat_tests) in y);
  count = ap length e ∙ length-set now i (with (set_at now i) place) ∙ p.count;
}

pub Putting-done : (old now : List Items) (whole left : Items) (place : ℕ) → left ≡ empty → Putting old now whole left place → (i : ℕ) → i < most_items → set_at now i ≡ cond (has whole i) (with (set_at old i) place) (set_at old i)
Putting-done old now whole left place e p i l =
    let none : has left i ≡ false = ap (λ s. has s i) e ∙ has-empty i in
    p.put i l ∙ ap (λ b. cond b (with (set_at old i) place) (set_at old i)) (rw none (elim (has whole i) as (λ b. (b && true) ≡ b) [ true ↦ refl | false ↦ refl ]))

-- ---- the columns of a list

pub AreColumns-first : (columns : List Items) → columns ≡ replicate most_items empty → AreColumns [] columns
AreColumns-first columns e = record {
  count = ap length e ∙ length-replicate most_items empty;
  each = λ i l k. ap (λ c. has (set_at c i) k) e ∙ ap (λ s. has s k) (get_or-replicate most_items i empty empty l) ∙ has-empty k;
}

pub AreColumns-more : (taken : List Query) (r : Query) (old new : List Items) (place : ℕ) → place ≡ length taken → AreColumns taken old → ((i : ℕ) → i < most_items → set_at new i ≡ cond (has r.a i) (with (set_at old i) place) (set_at old i)) → length new ≡ most_items
    → AreColumns (taken ++ r ∷ []) new
AreColumns-more taken r old new place e a puts count = record {
  count = count;
  each = λ i l k. ap (λ s. has s k) (puts i l) ∙ elim (cases_eq k place) [
    | inl q ↦
        let last : is_at (λ r. has r.a i) (taken ++ r ∷ []) k ≡ has r.a i = rw (q, e) (is_at-last (λ r. has r.a i) taken r) in
        let before : has (set_at old i) k ≡ false = a.each i l k ∙ is_at-past (λ r. has r.a i) taken k (omega (arith, q, e)) in
        rw last (elim (has r.a i) as (λ b. has (cond b (with (set_at old i) place) (set_at old i)) k ≡ b) [ true ↦ grind (arith, members, nat_tests) | false ↦ before ])
    | inr n ↦
        let other : is_at (λ r. has r.a i) (taken ++ r ∷ []) k ≡ is_at (λ r. has r.a i) taken k = is_at-other (λ r. has r.a i) taken r k (λ x. n (x ∙ sym e)) in
        rw other (elim (has r.a i) as (λ b. has (cond b (with (set_at old i) place) (set_at old i)) k ≡ is_at (λ r. has r.a i) taken k) [ true ↦ (let same : has (with (set_at old i) place) k ≡ has (set_at old i) k = grind (arith, members, nat_tests) in same) ∙ a.each i l k | false ↦ a.each i l k ])
  ];
}

-- what is read at an item is its column
pub column-read : (rs : List Query) (columns : List Items) (i : ℕ) (column : Items) → AreColumns rs columns → i < most_items → column ≡ get_or columns i column → ArePlaces (λ r. has r.a i) rs column
column-read rs columns i column a l e k = ap (λ s. has s k) (e ∙ get_or_default columns i column empty (let b : i < length columns = rw a.count l in b)) ∙ a.each i l k

-- ---- going over the items of a set

any_at : (o : Option Query) (left : Items) (i : ℕ) → has left i ≡ true
    → option_map_or (λ (r : Query). meets r.a left) o false ≡ (option_map_or (λ (r : Query). has r.a i) o false || option_map_or (λ (r : Query). meets r.a (without left i)) o false)
any_at None left i h = refl
any_at (Some r) left i h = meets-step r.a left i h

none_at : (o : Option Query) → option_map_or (λ (r : Query). meets r.a empty) o false ≡ false
none_at None = refl
none_at (Some r) = meets-none r.a

-- the places that are found and those that the items left give are those of all
abbrev pub Collects : List Query → Items → Items → Items → Type 0
Collects rs whole left places = (k : ℕ) → (has places k || is_at (λ r. meets r.a left) rs k) ≡ is_at (λ r. meets r.a whole) rs k

pub Collects-first : (rs : List Query) (whole : Items) → Collects rs whole whole empty
Collects-first rs whole k = ap (λ b. b || is_at (λ r. meets r.a whole) rs k) (has-empty k)

pub Collects-more : (rs : List Query) (whole left places column : Items) (i : ℕ) → has left i ≡ true → ArePlaces (λ r. has r.a i) rs column → Collects rs whole left places → Collects rs whole (without left i) (union places column)
Collects-more rs whole left places column i h c a k =
    let rest = is_at (λ r. meets r.a (without left i)) rs k in
    ap (λ b. b || rest) (has-union places column k ∙ ap (λ b. has places k || b) (c k)) ∙ or_assoc (has places k) (is_at (λ r. has r.a i) rs k) rest ∙ ap (λ b. has places k || b) (sym (any_at (slice_get rs k) left i h)) ∙ a k

pub Collects-done : (rs : List Query) (whole left places : Items) → left ≡ empty → Collects rs whole left places → ArePlaces (λ r. meets r.a whole) rs places
Collects-done rs whole left places e a k =
    sym (or-false (has places k)) ∙ ap (λ b. has places k || b) (sym (ap (λ s. is_at (λ r. meets r.a s) rs k) e ∙ none_at (slice_get rs k))) ∙ a k

-- the places that are left, less those that the items left give, are the first ones less those of all
abbrev pub Clears : List Query → Items → Items → Items → Items → Type 0
Clears rs first whole left places = (k : ℕ) → (has places k && not (is_at (λ r. meets r.a left) rs k)) ≡ (has first k && not (is_at (λ r. meets r.a whole) rs k))

less_both : (x y z : Bool) → ((x && not y) && not z) ≡ (x && not (y || z))
less_both false y z = refl
less_both true false z = refl
less_both true true z = refl

pub Clears-more : (rs : List Query) (first whole left places column : Items) (i : ℕ) → has left i ≡ true → ArePlaces (λ r. has r.a i) rs column → Clears rs first whole left places → Clears rs first whole (without left i) (minus places column)
Clears-more rs first whole left places column i h c a k =
    let rest = is_at (λ r. meets r.a (without left i)) rs k in
    ap (λ b. b && not rest) (has-minus places column k ∙ ap (λ b. has places k && not b) (c k)) ∙ less_both (has places k) (is_at (λ r. has r.a i) rs k) rest ∙ ap (λ b. has places k && not b) (sym (any_at (slice_get rs k) left i h)) ∙ a k

-- the column that was read is taken away
pub Clears-read : (rs : List Query) (columns : List Items) (first whole left places column rest : Items) (i : ℕ) → AreColumns rs columns → i < most_items → column ≡ get_or columns i column → has left i ≡ true → rest ≡ minus places column
    → Clears rs first whole left places → Clears rs first whole (without left i) rest
Clears-read rs columns first whole left places column rest i are l read h e a = rw e (Clears-more rs first whole left places column i h (column-read rs columns i column are l read) a)

pub Clears-done : (rs : List Query) (first whole left places : Items) → left ≡ empty → Clears rs first whole left places → (k : ℕ) → has places k ≡ (has first k && not (is_at (λ r. meets r.a whole) rs k))
Clears-done rs first whole left places e a k =
    let none : is_at (λ r. meets r.a left) rs k ≡ false = ap (λ s. is_at (λ r. meets r.a s) rs k) e ∙ none_at (slice_get rs k) in
    let whole_left : (has places k && not (is_at (λ r. meets r.a left) rs k)) ≡ has places k = rw none (elim (has places k) as (λ b. (b && true) ≡ b) [ true ↦ refl | false ↦ refl ]) in
    sym whole_left ∙ a k

-- where no place is left none was to be
pub Clears-none : (rs : List Query) (first whole left places : Items) → places ≡ empty → Clears rs first whole left places → (k : ℕ) → has places k ≡ (has first k && not (is_at (λ r. meets r.a whole) rs k))
Clears-none rs first whole left places e a k =
    let none : has places k ≡ false = ap (λ s. has s k) e ∙ has-empty k in
    none ∙ sym (ap (λ b. b && not (is_at (λ r. meets r.a left) rs k)) none) ∙ a k
