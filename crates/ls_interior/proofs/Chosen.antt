-- Items chosen one after another.
use Rattle.std.proofs.Common.{◌&&◌, ◌||◌, ◌+◌, ◌<◌, ◌≡◌, ◌∙◌, ℕ, Bool, false, true, List, inl, inr, eqb, ltb, not, ap, arith, refl, sym}
use Rattle.std.proofs.lemmas.Bool.{and_parts, cases_Bool}
use Rattle.std.proofs.lemmas.Bool.Decides.{nat_tests}
use Rattle.ls_set.specs.{IsWithin, Items, empty, full, has, is_among, is_within, keep_before, minus, subsets, with}
use Rattle.ls_set.proofs.Sets.{IsWithin-from, has-keep_before, has-with, is_within-from, members, minus-within, same_set}
use Rattle.ls_set.proofs.Order.{among-subsets}
use Rattle.ls_theory.specs.{interior}
unfoldable use Rattle.ls_theory.specs.{outer_fringe}
use Rattle.ls_laws.proofs.ReadBack.{has-chosen, has-outer_fringe}
use Rattle.ls_laws.specs.Families.{IsFamily}
use Rattle.ls_laws.proofs.Interiors.{is_within-interior}

-- ---- the items of a set below a number that grows

below-none : (t : Items) → empty ≡ keep_before t 0
below-none t = same_set _ _ (λ i. grind (arith, members, nat_tests))

pub below-start : (s t : Items) → s ≡ empty → s ≡ keep_before t 0
below-start s t e = e ∙ below-none t

one_more : (k i : ℕ) (q : Bool) → (i ≡ k → q ≡ true) → (q && ltb i k || eqb i k) ≡ (q && ltb i (k + 1))
one_more k i q h = grind (arith, nat_tests)

none_more : (k i : ℕ) (q : Bool) → (i ≡ k → q ≡ false) → (q && ltb i k) ≡ (q && ltb i (k + 1))
none_more k i q h = grind (arith, nat_tests)

pub below-taken : (t : Items) (k : ℕ) → has t k ≡ true → with (keep_before t k) k ≡ keep_before t (k + 1)
below-taken t k c = same_set _ _ (λ i. rw (has-with, has-keep_before, has-keep_before) (one_more k i (has t i) (λ e. ap (has t) e ∙ c)))

pub below-left : (t : Items) (k : ℕ) → has t k ≡ false → keep_before t k ≡ keep_before t (k + 1)
below-left t k c = same_set _ _ (λ i. rw (has-keep_before, has-keep_before) (none_more k i (has t i) (λ e. ap (has t) e ∙ c)))

pub below-all : (t : Items) (n : ℕ) → IsWithin t (full n) → keep_before t n ≡ t
below-all t n within = same_set _ _ (λ i. let b = within i in grind (arith, members, nat_tests))

-- ---- an item more

pub with-within : (s : Items) (i n : ℕ) → IsWithin s (full n) → i < n → IsWithin (with s i) (full n)
with-within s i n within lt k h = elim (cases_Bool (has s k)) [ inl e ↦ within k e | inr e ↦ grind (arith, members, nat_tests) ]

-- ---- the outer fringe is among the items

pub outer-within : (n : ℕ) (f : List Items) (k : Items) → IsWithin (outer_fringe n f k) (full n)
unfolding outer_fringe
outer-within n f k i h =
    let p = and_parts (has (minus (full n) k) i) (is_among f (with k i)) (sym (has-chosen (λ i. is_among f (with k i)) (minus (full n) k) i) ∙ h) in
    minus-within (full n) k i p.0

-- an item is in it where it is outside and the set with it lies within its interior
pub outer-has : (n : ℕ) (f : List Items) (k more inside : Items) (i : ℕ) (b : Bool) → IsFamily n f → more ≡ with k i → inside ≡ interior f more → b ≡ is_within more inside → has (outer_fringe n f k) i ≡ (not (has k i) && b)
outer-has n f k more inside i b family m e t =
    has-outer_fringe n f family.small k i
    ∙ ap (λ c. not (has k i) && c) (ap (is_among f) (sym m) ∙ sym (is_within-interior f family.holds_empty family.holds_unions more) ∙ ap (is_within more) (sym e) ∙ sym t)

pub outer-in : (n : ℕ) (f : List Items) (k : Items) (i : ℕ) → IsFamily n f → has k i ≡ true → has (outer_fringe n f k) i ≡ false
outer-in n f k i family h = has-outer_fringe n f family.small k i ∙ ap (λ b. not b && is_among f (with k i)) h

-- any item outside can be added where all sets are members
pub free-outer : (n : ℕ) (k : Items) → is_among (subsets n) k ≡ true → minus (full n) k ≡ outer_fringe n (subsets n) k
unfolding outer_fringe
free-outer n k c =
    let within = IsWithin-from k (full n) (sym (among-subsets n k) ∙ c) in
    same_set (minus (full n) k) (outer_fringe n (subsets n) k) (λ i.
    sym (has-chosen (λ i. is_among (subsets n) (with k i)) (minus (full n) k) i
    ∙ ap (λ b. has (minus (full n) k) i && b) (among-subsets n (with k i))
    ∙ kept (has (minus (full n) k) i) (is_within (with k i) (full n)) (λ h.
    is_within-from (with k i) (full n) (λ j a. elim (cases_Bool (has k j)) [
      | inl e ↦ within j e
      | inr e ↦ let in_full : has (full n) i ≡ true = minus-within (full n) k i h in grind (arith, members, nat_tests)
    ]))))
  where
    kept : (a b : Bool) → (a ≡ true → b ≡ true) → (a && b) ≡ a
    kept true b h = h refl
    kept false b h = refl
