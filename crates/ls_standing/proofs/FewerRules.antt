-- Families by few of their rules.
use Rattle.ls_standing.proofs.Vocabulary.{AllByRecursion, Bool, IsPermutation, Items, List, Query, [], ap, ap₂, breaks, breaks_none, compat, compat-more, cond, eqb, false, filter-all, filter_agree, is_compatible, left_by, list_all, meets, not, or_parts, refl, some_breaks, subsets, sum_by-zero, sym, true, ℕ, ◌&&◌, ◌++◌, ◌∙◌, ◌∷◌, ◌≡◌}
use Rattle.std.proofs.lemmas.List.Sorted.{sum_by-IsPermutation}
use Rattle.ls_theory.specs.Starts as theory

zero_test : (b : Bool) → b ≡ eqb (cond b 0 1) 0
zero_test true = refl
zero_test false = refl

-- all pass where the number of those that do not is 0
all_counted : {X : Type 0} (p : X → Bool) (xs : List X) → list_all p xs ≡ list_all (λ x. eqb (cond (p x) 0 1) 0) xs
all_counted p [] = refl
all_counted p (x ∷ xs) = ap₂ (λ a b. a && b) (zero_test (p x)) (all_counted p xs)

-- whether all pass is the same in another order
pub all_moved : {X : Type 0} (p : X → Bool) (xs ys : List X) → IsPermutation xs ys → list_all p ys ≡ list_all p xs
all_moved p xs ys h =
    all_counted p ys ∙ sym (sum_by-zero (λ x. cond (p x) 0 1) ys) ∙ ap (λ s. eqb s 0) (sum_by-IsPermutation (λ x. cond (p x) 0 1) xs ys h)
    ∙ sum_by-zero (λ x. cond (p x) 0 1) xs ∙ sym (all_counted p xs)

-- rules that are broken by the same sets leave the same sets
pub compat-alike : (n : ℕ) (start : theory.Start) (rs qs : List Query) → ((k : Items) → breaks_none rs k ≡ breaks_none qs k) → compat n start rs ≡ compat n start qs
unfolding compat
compat-alike n start rs qs h = filter_agree (is_compatible start rs) (is_compatible start qs) (λ k. ap (λ b. meets start k && b) (h k)) (subsets n)

-- one more rule that is broken
pub more-kept : (n : ℕ) (start : theory.Start) (rs qs : List Query) (r : Query) → compat n start rs ≡ compat n start qs → compat n start (rs ++ r ∷ []) ≡ compat n start (qs ++ r ∷ [])
more-kept n start rs qs r h = compat-more n start rs r ∙ ap (left_by r) h ∙ sym (compat-more n start qs r)

-- where none of the sets breaks a query, each is left
pub none_left_out : (f : List Items) (r : Query) → some_breaks f r ≡ false → AllByRecursion (λ k. not (breaks k r) ≡ true) f
none_left_out [] r e = tt
none_left_out (k ∷ f) r e = let p = or_parts (breaks k r) (some_breaks f r) e in (ap not p.0, none_left_out f r p.1)

-- one more rule that none of the sets breaks
pub more-given : (n : ℕ) (start : theory.Start) (rs qs : List Query) (r : Query) → some_breaks (compat n start rs) r ≡ false → compat n start rs ≡ compat n start qs → compat n start rs ≡ compat n start (qs ++ r ∷ [])
more-given n start rs qs r none h = sym (filter-all (λ k. not (breaks k r)) (compat n start rs) (none_left_out (compat n start rs) r none)) ∙ ap (left_by r) h ∙ sym (compat-more n start qs r)
