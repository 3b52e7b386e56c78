-- The first element that passes.
use Rattle.ls_lists.proofs.Vocabulary.{◌&&◌, ◌||◌, ◌↔◌, ◌∷◌, ◌≡◌, AllByRecursion, Bool, List, None, Some, [], arith, cond, false, filter, find, list_any, none-some, not, or_parts, refl, same_Some, slice_get, subst, sym, true, true≢false}

-- ---- whether there is one

pub find-some : {X : Type 0} (p : X → Bool) (xs : List X) → list_any p xs ≡ true → (x : X) × (find p xs ≡ Some x)
find-some p [] h = absurd (true≢false (sym h))
find-some p (x ∷ xs) h = elim (p x) as (λ b. (b || list_any p xs) ≡ true → (y : _) × (cond b (Some x) (find p xs) ≡ Some y)) [
  | true ↦ λ _. (x, refl)
  | false ↦ λ h. find-some p xs h
] h

pub find-nothing : {X : Type 0} (p : X → Bool) (xs : List X) → list_any p xs ≡ false → find p xs ≡ None
find-nothing p [] h = refl
find-nothing p (x ∷ xs) h = let a = or_parts (p x) (list_any p xs) h in rw a.0 (find-nothing p xs a.1)

pub find-is_none : {X : Type 0} (p : X → Bool) (xs : List X) → (not (list_any p xs) ≡ true) ↔ (find p xs ≡ None)
find-is_none p [] = (λ _. refl, λ _. refl)
find-is_none p (x ∷ xs) = elim (p x) as (λ b. (not (b || list_any p xs) ≡ true) ↔ (cond b (Some x) (find p xs) ≡ None)) [
  | true ↦ (λ h. absurd (let z : ⊥ = cc in z), λ e. absurd (let z : ⊥ = cc in z))
  | false ↦ find-is_none p xs
]

-- ---- what holds of the one that is found

pub found-passes : {X : Type 0} (test : X → Bool) (xs : List X) (x : X) → find test xs ≡ Some x → test x ≡ true
found-passes test [] x h = absurd (none-some x h)
found-passes test (y ∷ xs) x h =
    elim (test y) as (λ t. test y ≡ t → cond t (Some y) (find test xs) ≡ Some x → test x ≡ true) [
      | true ↦ λ e k. subst (λ z. test z ≡ true) (same_Some y x k) e
      | false ↦ λ e k. found-passes test xs x k
    ] refl h

pub found-holds : {X : Type 0} (P : X → Type 0) (p : X → Bool) (xs : List X) (k : X) → find p xs ≡ Some k → AllByRecursion P xs → P k
found-holds P p [] k e h = cc
found-holds P p (x ∷ xs) k e h =
    elim (p x) as (λ b. cond b (Some x) (find p xs) ≡ Some k → P k) [ true ↦ λ e. let same : x ≡ k = cc in subst P same h.0 | false ↦ λ e. found-holds P p xs k e h.1 ] e

-- ---- among those that a filter keeps

pub slice_get-filter : {X : Type 0} (p : X → Bool) (xs : List X) → slice_get (filter p xs) 0 ≡ find p xs
slice_get-filter p [] = refl
slice_get-filter p (x ∷ xs) = elim (p x) as (λ b. slice_get (cond b (x ∷ filter p xs) (filter p xs)) 0 ≡ cond b (Some x) (find p xs)) [ true ↦ refl | false ↦ slice_get-filter p xs ]

pub find-any : {X : Type 0} (xs : List X) → find (λ x. true) xs ≡ slice_get xs 0
find-any [] = refl
find-any (x ∷ xs) = refl

pub find-filter : {X : Type 0} (p q : X → Bool) (xs : List X) → find q (filter p xs) ≡ find (λ x. p x && q x) xs
find-filter p q [] = refl
find-filter p q (x ∷ xs) = grind (arith, find-filter p q xs)
