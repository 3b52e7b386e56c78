-- What a filter keeps.
use Rattle.ls_lists.proofs.Vocabulary.{◌&&◌, ◌+◌, ◌||◌, ◌∷◌, ◌≡◌, ◌≤◌, AllByRecursion, Bool, List, ℕ, [], ap, ap₂, arith, cases_Bool, cond, false, false_from_ne_true, filter, inl, inr, length, map, refl, sum_by, sum_by-cons, true, true≢false}

-- ---- all, none

pub filter_true : {X : Type 0} (xs : List X) → filter (λ x. true) xs ≡ xs
filter_true [] = refl
filter_true (x ∷ xs) = ap (λ l. x ∷ l) (filter_true xs)

pub filter-nothing : {X : Type 0} (xs : List X) → filter (λ x. false) xs ≡ []
filter-nothing [] = refl
filter-nothing (x ∷ xs) = filter-nothing xs

pub filter-all : {X : Type 0} (p : X → Bool) (xs : List X) → AllByRecursion (λ x. p x ≡ true) xs → filter p xs ≡ xs
filter-all p [] h = refl
filter-all p (x ∷ xs) h = rw h.0 (ap (λ l. x ∷ l) (filter-all p xs h.1))

pub All-none : {X : Type 0} (q : X → Bool) (xs : List X) → AllByRecursion (λ x. q x ≡ true → ⊥) xs → filter q xs ≡ []
All-none q [] h = refl
All-none q (x ∷ xs) h = rw (false_from_ne_true (q x) h.0) (All-none q xs h.1)

-- ---- two tests, and images

pub filter-agree : {X : Type 0} (p q : X → Bool) (xs : List X) → AllByRecursion (λ x. p x ≡ q x) xs → filter p xs ≡ filter q xs
filter-agree p q [] h = refl
filter-agree p q (x ∷ xs) h = ap₂ (λ b l. cond b (x ∷ l) l) h.0 (filter-agree p q xs h.1)

pub filter-both : {X : Type 0} (p q : X → Bool) (xs : List X) → filter q (filter p xs) ≡ filter (λ x. p x && q x) xs
filter-both p q [] = refl
filter-both p q (x ∷ xs) = elim (p x) as (λ b. filter q (cond b (x ∷ filter p xs) (filter p xs)) ≡ cond (b && q x) (x ∷ filter (λ x. p x && q x) xs) (filter (λ x. p x && q x) xs)) [
  | true ↦ ap (λ l. cond (q x) (x ∷ l) l) (filter-both p q xs)
  | false ↦ filter-both p q xs
]

pub filter-map : {X Y : Type 0} (q : Y → Bool) (h : X → Y) (xs : List X) → filter q (map h xs) ≡ map h (filter (λ x. q (h x)) xs)
filter-map q h [] = refl
filter-map q h (x ∷ xs) = elim (q (h x)) as (λ b. cond b (h x ∷ filter q (map h xs)) (filter q (map h xs)) ≡ map h (cond b (x ∷ filter (λ x. q (h x)) xs) (filter (λ x. q (h x)) xs))) [
  | true ↦ ap (λ l. h x ∷ l) (filter-map q h xs)
  | false ↦ filter-map q h xs
]

-- ---- how much

pub filter-fewer : {X : Type 0} (p q : X → Bool) → ((x : X) → p x ≡ true → q x ≡ true) → (xs : List X) → length (filter p xs) ≤ length (filter q xs)
filter-fewer p q w [] = omega arith
filter-fewer p q w (x ∷ xs) = grind (arith, filter-fewer p q w xs, w x)

pub filter-parts : {X : Type 0} (p q r : X → Bool) → ((x : X) → r x ≡ (p x || q x)) → ((x : X) → (p x && q x) ≡ false) → (xs : List X) → length (filter r xs) ≡ length (filter p xs) + length (filter q xs)
filter-parts p q r h a [] = refl
filter-parts p q r h a (x ∷ xs) =
    let rest = filter-parts p q r h a xs in
    elim (cases_Bool (p x)) [
      | inl b ↦ elim (cases_Bool (q x)) [
        | inl c ↦ absurd (true≢false (rw (b, c) at (a x)))
        | inr c ↦ rw (h x, b, c) (omega arith)
      ]
      | inr b ↦ elim (cases_Bool (q x)) [
        | inl c ↦ rw (h x, b, c) (omega arith)
        | inr c ↦ rw (h x, b, c) (omega arith)
      ]
    ]

-- a part of the terms comes to no more than all
pub sum_by-filter-le : {X : Type 0} (w : X → ℕ) (p : X → Bool) (xs : List X) → sum_by w (filter p xs) ≤ sum_by w xs
sum_by-filter-le w p [] = omega arith
sum_by-filter-le w p (x ∷ xs) =
    let rest : sum_by w (filter p xs) ≤ sum_by w xs = sum_by-filter-le w p xs in
    elim (p x) as (λ b. sum_by w (cond b (x ∷ filter p xs) (filter p xs)) ≤ sum_by w (x ∷ xs)) [
      | true ↦ rw (sum_by-cons w x (filter p xs), sum_by-cons w x xs) (omega arith)
      | false ↦ rw (sum_by-cons w x xs) (omega arith)
    ]
