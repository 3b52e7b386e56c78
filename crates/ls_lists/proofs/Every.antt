-- What holds of every element of a list, or of some.
use Rattle.ls_lists.proofs.Vocabulary.{◌&&◌, ◌++◌, ◌||◌, ◌∙◌, ◌∷◌, ◌≡◌, All, AllByRecursion, Bool, List, ℕ, [], and_from, and_parts, ap, arith, cond, false, filter, inl, inr, list_all, list_any, map, not, or_cases, refl, remove, set, suc, sym, true, true≢false, zero}
use Rattle.std.proofs.lemmas.List.Elements.{All-nil, All-cons}

-- ---- every element, by recursion

pub All-given : {X : Type 0} (P : X → Type 0) → ((x : X) → P x) → (xs : List X) → AllByRecursion P xs
All-given P h [] = tt
All-given P h (x ∷ xs) = (h x, All-given P h xs)

pub each : {X : Type 0} {P Q : X → Type 0} → ((x : X) → P x → Q x) → (xs : List X) → AllByRecursion P xs → AllByRecursion Q xs
each f [] h = tt
each f (x ∷ xs) h = (f x h.0, each f xs h.1)

pub All-append : {X : Type 0} (P : X → Type 0) (xs ys : List X) → AllByRecursion P xs → AllByRecursion P ys → AllByRecursion P (xs ++ ys)
All-append P [] ys h k = k
All-append P (x ∷ xs) ys h k = (h.0, All-append P xs ys h.1 k)

pub All-map : {X Y : Type 0} (P : Y → Type 0) (h : X → Y) (xs : List X) → AllByRecursion (λ x. P (h x)) xs → AllByRecursion P (map h xs)
All-map P h [] a = tt
All-map P h (x ∷ xs) a = (a.0, All-map P h xs a.1)

pub All-filter : {X : Type 0} (P : X → Type 0) (p : X → Bool) (xs : List X) → AllByRecursion P xs → AllByRecursion P (filter p xs)
All-filter P p [] h = tt
All-filter P p (x ∷ xs) h = elim (p x) as (λ b. AllByRecursion P (cond b (x ∷ filter p xs) (filter p xs))) [ true ↦ (h.0, All-filter P p xs h.1) | false ↦ All-filter P p xs h.1 ]

-- every element that passes
pub All-kept : {X : Type 0} (P : X → Type 0) (q : X → Bool) (xs : List X) → AllByRecursion (λ x. q x ≡ true → P x) xs → AllByRecursion P (filter q xs)
All-kept P q [] h = tt
All-kept P q (x ∷ xs) h = elim (q x) as (λ b. q x ≡ b → AllByRecursion P (cond b (x ∷ filter q xs) (filter q xs))) [
  | true ↦ λ e. (h.0 e, All-kept P q xs h.1)
  | false ↦ λ _. All-kept P q xs h.1
] refl

pub All-passing : {X : Type 0} (P : X → Type 0) (p : X → Bool) (xs : List X) → AllByRecursion P (filter p xs) → AllByRecursion (λ x. p x ≡ true → P x) xs
All-passing P p [] h = tt
All-passing P p (x ∷ xs) h =
    elim (p x) as (λ b. p x ≡ b → AllByRecursion P (cond b (x ∷ filter p xs) (filter p xs)) → AllByRecursion (λ x. p x ≡ true → P x) (x ∷ xs)) [
      | true ↦ λ _ h. (λ _. h.0, All-passing P p xs h.1)
      | false ↦ λ e h. (λ a. absurd (true≢false (sym a ∙ e)), All-passing P p xs h)
    ] refl h

-- ---- every element, by a test

pub All-list_all : {X : Type 0} (p : X → Bool) (xs : List X) → AllByRecursion (λ x. p x ≡ true) xs → list_all p xs ≡ true
All-list_all p [] h = refl
All-list_all p (x ∷ xs) h = and_from (p x) (list_all p xs) h.0 (All-list_all p xs h.1)

pub list_all-All : {X : Type 0} (p : X → Bool) (xs : List X) → list_all p xs ≡ true → AllByRecursion (λ x. p x ≡ true) xs
list_all-All p [] h = tt
list_all-All p (x ∷ xs) h = let a = and_parts (p x) (list_all p xs) h in (a.0, list_all-All p xs a.1)

pub All-to : {X : Type 0} (P : X → Type 0) (p : X → Bool) (xs : List X) → AllByRecursion P xs → ((x : X) → P x → p x ≡ true) → list_all p xs ≡ true
All-to P p xs h w = All-list_all p xs (each w xs h)

pub list_all-filter : {X : Type 0} (p q : X → Bool) (xs : List X) → list_all p (filter q xs) ≡ list_all (λ x. not (q x) || p x) xs
list_all-filter p q [] = refl
list_all-filter p q (x ∷ xs) = elim (q x) as (λ b. list_all p (cond b (x ∷ filter q xs) (filter q xs)) ≡ ((not b || p x) && list_all (λ x. not (q x) || p x) xs)) [
  | true ↦ ap (λ b. p x && b) (list_all-filter p q xs)
  | false ↦ list_all-filter p q xs
]

-- what is kept passes what the kept pass
pub list_all-kept : {X : Type 0} (p q : X → Bool) (xs : List X) → ((x : X) → p x ≡ true → q x ≡ true) → list_all q (filter p xs) ≡ true
list_all-kept p q xs h = All-list_all q (filter p xs) (All-kept (λ x. q x ≡ true) p xs (All-given (λ x. p x ≡ true → q x ≡ true) h xs))

pub list_all-set : {X : Type 0} (p : X → Bool) (xs : List X) (i : ℕ) (x : X) → list_all p xs ≡ true → p x ≡ true → list_all p (set xs i x) ≡ true
list_all-set p [] i x h g = refl
list_all-set p (y ∷ xs) zero x h g = and_from (p x) (list_all p xs) g (and_parts (p y) (list_all p xs) h).1
list_all-set p (y ∷ xs) (suc i) x h g = let r = and_parts (p y) (list_all p xs) h in and_from (p y) (list_all p (set xs i x)) r.0 (list_all-set p xs i x r.1 g)

pub list_all-remove : {X : Type 0} (p : X → Bool) (xs : List X) (m : ℕ) → list_all p xs ≡ true → list_all p (remove xs m) ≡ true
list_all-remove p [] zero h = refl
list_all-remove p [] (suc m) h = refl
list_all-remove p (x ∷ xs) zero h = (and_parts (p x) (list_all p xs) h).1
list_all-remove p (x ∷ xs) (suc m) h = let a = and_parts (p x) (list_all p xs) h in and_from (p x) (list_all p (remove xs m)) a.0 (list_all-remove p xs m a.1)

-- ---- some element

pub some_of : {X : Type 0} (p : X → Bool) (xs : List X) → list_any p xs ≡ true → (x : X) × (p x ≡ true)
some_of p [] h = absurd (true≢false (sym h))
some_of p (x ∷ xs) h = elim (or_cases (p x) (list_any p xs) h) [ inl a ↦ (x, a) | inr a ↦ some_of p xs a ]

pub list_any-map : {X Y : Type 0} (f : X → Y) (p : Y → Bool) (xs : List X) → list_any (λ x. p (f x)) xs ≡ list_any p (map f xs)
list_any-map f p [] = refl
list_any-map f p (x ∷ xs) = ap (λ b. p (f x) || b) (list_any-map f p xs)

-- ---- every element, by its place

pub All-unmap : {X Y : Type 0} (P : X → Type 0) (f : Y → X) (ys : List Y) → All P (map f ys) → All (λ y. P (f y)) ys
All-unmap P f [] h = All-nil (λ y. P (f y))
All-unmap P f (y ∷ ys) h = All-cons (λ y. P (f y)) y ys (h 0 (f y) (omega arith)) (All-unmap P f ys (λ k d lt. h (suc k) d (omega arith)))
