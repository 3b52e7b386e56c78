-- The states that are kept to show what is not enough.
use Rattle.ls_infer.proofs.Vocabulary.{◌++◌, ◌∙◌, ◌∷◌, ◌≡◌, ◌≤◌, All-kept, All-list_all, All-to, AreStates, Bool, IsPart, Items, List, Query, ℕ, [], among-left, and_from, and_parts, ap, arith, breaks, drop, each, filter, is_among, left_by, length, list_all, list_all-All, map, not, refl, suc, take, true, zero}

all-weaker : {X : Type 0} (p q : X → Bool) (xs : List X) → ((x : X) → p x ≡ true → q x ≡ true) → list_all p xs ≡ true → list_all q xs ≡ true
all-weaker p q xs h e = All-to (λ x. p x ≡ true) q xs (list_all-All p xs e) h

-- members of a part of a family are members of it
pub states-part : (f g : List Items) (kept : List (List Items)) → IsPart g f → AreStates g kept → AreStates f kept
states-part f g kept part = all-weaker (list_all (is_among g)) (list_all (is_among f)) kept (λ ks. all-weaker (is_among g) (is_among f) ks part)

-- those that do not break a query are members of the family that is left by it
unbroken-states : (f : List Items) (r : Query) (ks : List Items) → list_all (is_among f) ks ≡ true → list_all (is_among (left_by r f)) (filter (λ k. not (breaks k r)) ks) ≡ true
unbroken-states f r ks h = All-list_all (is_among (left_by r f)) (filter (λ k. not (breaks k r)) ks)
    (All-kept (λ k. is_among (left_by r f) k ≡ true) (λ k. not (breaks k r)) ks
    (each (λ k member unbroken. among-left f r k ∙ and_from (is_among f k) (not (breaks k r)) member unbroken) ks (list_all-All (is_among f) ks h)))

pub states-left : (f : List Items) (r : Query) (kept : List (List Items)) → AreStates f kept → AreStates (left_by r f) (map (filter (λ k. not (breaks k r))) kept)
states-left f r [] h = refl
states-left f r (ks ∷ kept) h =
    let p = and_parts (list_all (is_among f) ks) (list_all (list_all (is_among f)) kept) h in
    and_from (list_all (is_among (left_by r f)) (filter (λ k. not (breaks k r)) ks)) (list_all (list_all (is_among (left_by r f))) (map (filter (λ k. not (breaks k r))) kept))
    (unbroken-states f r ks p.0) (states-left f r kept p.1)

-- ---- the end of a loop that writes each element over by its image

pub written-end : {X : Type 0} (g : X → X) (xs : List X) (i : ℕ) → length xs ≤ i → map g (take i xs) ++ drop i xs ≡ map g xs
written-end g [] zero l = refl
written-end g [] (suc i) l = refl
written-end g (x ∷ xs) zero l = absurd (omega arith)
written-end g (x ∷ xs) (suc i) l = ap (λ ys. g x ∷ ys) (written-end g xs i (omega arith))
