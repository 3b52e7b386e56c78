-- Items that fall with an item.
use Rattle.ls_columns.proofs.Vocabulary.{FallsWith, IsFalling, IsIn, Items, List, Query, ap, arith, breaks, breaks-from, cases_eq, each-in, empty, false_from_ne_true, get_or, get_or-set_other, get_or-set_same, get_or_default, has, has-empty, has-union, has-with, inl, inr, length, list_all-All, members, most_items, nat_tests, not, not-true, or_cases, refl, replicate, same_set, set, set_at, single, suc, sym, true, true≢false, union, with, zero, ℕ, ◌<◌, ◌∙◌, ◌≡◌}

replicate-same : (n i : ℕ) → set_at (replicate n empty) i ≡ empty
replicate-same zero i = refl
replicate-same (suc n) zero = refl
replicate-same (suc n) (suc i) = replicate-same n i

pub IsFalling-first : (rs : List Query) (sets : List Items) → sets ≡ replicate most_items empty → IsFalling rs sets
IsFalling-first rs sets e i j h = absurd (true≢false (sym h ∙ ap (λ c. has (set_at c i) j) e ∙ ap (λ s. has s j) (replicate-same most_items i) ∙ has-empty j))

-- a set with items that fall with an item, at the place of another with which that falls
pub IsFalling-set : (rs : List Query) (sets : List Items) (i j : ℕ) (more : Items) → IsFalling rs sets → ((m : ℕ) → has more m ≡ true → FallsWith rs i m) → FallsWith rs j i → j < length sets → IsFalling rs (set sets j (union (set_at sets j) more))
IsFalling-set rs sets i j more a h with_i l k m x = elim (cases_eq k j) [
  | inl e ↦
      let here : set_at (set sets j (union (set_at sets j) more)) k ≡ union (set_at sets j) more = rw e (get_or-set_same sets j (union (set_at sets j) more) empty l) in
      elim (or_cases (has (set_at sets j) m) (has more m) (sym (has-union (set_at sets j) more m) ∙ ap (λ s. has s m) (sym here) ∙ x)) [
        | inl y ↦ rw e (a j m y)
        | inr y ↦ rw e (λ t u out. h m y t u (with_i t u out))
      ]
  | inr n ↦ a k m (ap (λ s. has s m) (sym (get_or-set_other sets j k (union (set_at sets j) more) empty n)) ∙ x)
]

-- what is written at the place, of what was read there
pub IsFalling-put : (rs : List Query) (sets : List Items) (i j : ℕ) (y x more : Items) → j < length sets → y ≡ get_or sets j y → x ≡ union y more → IsFalling rs sets → ((m : ℕ) → has more m ≡ true → FallsWith rs i m) → FallsWith rs j i → IsFalling rs (set sets j x)
IsFalling-put rs sets i j y x more l read e a h with_i =
    let put = e ∙ ap (λ s. union s more) (read ∙ get_or_default sets j y empty l) in
    rw put (IsFalling-set rs sets i j more a h with_i l)

-- an item that was read among those of another falls with it
pub FallsWith-read : (rs : List Query) (sets : List Items) (i j : ℕ) (y : Items) → j < length sets → y ≡ get_or sets j y → has y i ≡ true → IsFalling rs sets → FallsWith rs j i
FallsWith-read rs sets i j y l read h a = a j i (ap (λ s. has s i) (sym (read ∙ get_or_default sets j y empty l)) ∙ h)

pub FallsWith-same : (rs : List Query) (i j : ℕ) → j ≡ i → FallsWith rs j i
FallsWith-same rs i j e t u out = ap (has t) (sym e) ∙ out

-- the item q of a rule falls with the only item of its A
pub FallsWith-rule : (rs : List Query) (r : Query) (i : ℕ) → IsIn r rs → r.a ≡ single i → FallsWith rs i r.q
FallsWith-rule rs r i c e t u out = false_from_ne_true (has t r.q) (λ h.
    let unbroken = not-true (breaks t r) (each-in (λ r. not (breaks t r) ≡ true) rs r (list_all-All (λ r. not (breaks t r)) rs u) c) in
    let broken = breaks-from t r (record {
      apart = λ k x. false_from_ne_true (has r.a k) (λ y.
          let only : has (single i) k ≡ true = ap (λ s. has s k) (sym e) ∙ y in
          let same : k ≡ i = grind (arith, members, nat_tests) in
          true≢false (sym x ∙ ap (has t) same ∙ out));
      has_q = h;
    }) in
    true≢false (sym broken ∙ unbroken))

pub with-single : (i : ℕ) → with empty i ≡ single i
with-single i = same_set (with empty i) (single i) (λ j. grind (arith, members, nat_tests))

-- the items of the set that the rule adds to
pub FallsWith-all : (rs : List Query) (sets : List Items) (i q : ℕ) → IsFalling rs sets → FallsWith rs i q → (j : ℕ) → has (with (set_at sets q) q) j ≡ true → FallsWith rs i j
FallsWith-all rs sets i q a f j h t u out = elim (or_cases (has (set_at sets q) j) _ (sym (has-with (set_at sets q) q j) ∙ h)) [
  | inl y ↦ a q j y t u (f t u out)
  | inr y ↦ let e : j ≡ q = grind (arith, nat_tests) in rw e (f t u out)
]
