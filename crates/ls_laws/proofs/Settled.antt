-- Where every good query is forced, only the compatible sets fit.
use Rattle.ls_laws.proofs.Vocabulary.{◌-◌, ◌<◌, ◌↔◌, ◌∙◌, ◌∷◌, ◌≡◌, ◌≤◌, Bool, Decides-is_same, IsInOrder, IsWithin, Items, List, Query, ℕ, ap, arith, back_in, bound, breaks, cases_Bool, cond, empty, false, false_from_ne_true, filter, full, has, has-empty, has-full, has-minus, inl, inr, interior, is_among, is_same, is_within-from, items, left_out, len, len-less, length, ltb-true, max, minus, minus-within, numbers_from, refl, same_within, subst, suc, sym, true, true≢false, zero}
use Rattle.ls_laws.proofs.Lists.{same_members}
use Rattle.ls_laws.proofs.Interiors.{IsUnionFamily, interior-greatest, is_within-interior}
use Rattle.ls_laws.proofs.Breaks.{IsGood, Breaks-from, breaks-from, some_breaks-here, breaker}
use Rattle.ls_laws.proofs.Fit.{Fits, IsSettled, compat_fits}

-- ---- how many items a set of items below n has

filter_below : (p : ℕ → Bool) (n i m : ℕ) → ((j : ℕ) → p j ≡ true → j < n) → length (filter p (numbers_from i m)) ≤ n - i
filter_below p n i zero h = omega arith
filter_below p n i (suc m) h =
    let rest = filter_below p n (suc i) m h in
    elim (p i) as (λ b. p i ≡ b → length (cond b (i ∷ filter p (numbers_from (suc i) m)) (filter p (numbers_from (suc i) m))) ≤ n - i) [
      | true ↦ λ a. let l = h i a in omega arith
      | false ↦ λ _. omega arith
    ] refl

pub len-small : (s : Items) (n : ℕ) → IsWithin s (full n) → len s ≤ n
unfolding len items
len-small s n h = let l = filter_below (has s) n 0 (bound s) (λ j a. ltb-true j n (sym (has-full n j) ∙ h j a)) in omega arith

-- ---- the query of a set that a fitting space could lack

-- the complement of k, and q
abbrev rest_of : ℕ → Items → ℕ → Query
rest_of n k q = record { a = minus (full n) k; q = q }

rest-IsGood : (n : ℕ) (k : Items) (q : ℕ) → IsWithin k (full n) → is_same k (full n) ≡ false → has k q ≡ true → IsGood n (rest_of n k q)
rest-IsGood n k q small other h = record {
  small = minus-within (full n) k;
  nonempty = false_from_ne_true (is_same (minus (full n) k) empty) (λ e.
      let none = λ (i : ℕ). sym (has-minus (full n) k i) ∙ ap (λ s. has s i) ((Decides-is_same (minus (full n) k) empty).0 e) ∙ has-empty i in
      true≢false (sym ((Decides-is_same k (full n)).1 (same_within k (full n) small (λ i a. back_in (has (full n) i) (has k i) a (none i)))) ∙ other));
  item = ltb-true q n (sym (has-full n q) ∙ small q h);
  outside = has-minus (full n) k q ∙ left_out (has (full n) q) (has k q) h;
}

rest-len : (n : ℕ) (k : Items) (q : ℕ) → IsWithin k (full n) → has k q ≡ true → len (minus (full n) k) ≤ max 1 (n - 1)
rest-len n k q small h =
    let l = len-less (minus (full n) k) (full n) q (minus-within (full n) k) (has-minus (full n) k q ∙ left_out (has (full n) q) (has k q) h) (small q h) in
    let m = len-small (full n) n (λ i a. a) in
    omega arith

rest-broken : (n : ℕ) (k : Items) (q : ℕ) → has k q ≡ true → breaks k (rest_of n k q) ≡ true
rest-broken n k q h = breaks-from k (rest_of n k q) (record { apart = λ i a. has-minus (full n) k i ∙ left_out (has (full n) i) (has k i) a; has_q = h })

-- each compatible set is a member of each fitting space
settled-part : (n : ℕ) (compat : List Items) (nos : List Query) (f : List Items) → IsInOrder compat → IsUnionFamily n compat → Fits n compat nos f → IsSettled n (max 1 (n - 1)) compat nos → (k : Items) → is_among compat k ≡ true → is_among f k ≡ true
settled-part n compat nos f order family fits settled k c =
    let small = family.small k c in
    elim (cases_Bool (is_same k (full n))) [
      | inl e ↦ subst (λ s. is_among f s ≡ true) (sym ((Decides-is_same k (full n)).0 e)) fits.holds_full
      | inr other ↦ sym (is_within-interior f fits.is_family.holds_empty fits.is_family.holds_unions k) ∙ is_within-from k (interior f k) (λ q h.
          elim (settled (rest_of n k q) (rest-IsGood n k q small other h) (rest-len n k q small h)) [
            | inl unbroken ↦ absurd (true≢false (sym (some_breaks-here compat k (rest_of n k q) c (rest-broken n k q h)) ∙ unbroken compat (compat_fits n compat nos f order family fits)))
            | inr broken ↦
                let m = breaker f (rest_of n k q) (broken f fits) in
                let b = Breaks-from m.0 (rest_of n k q) m.2 in
                interior-greatest f k m.0 m.1 (λ i a. back_in (has (full n) i) (has k i) (fits.is_family.small m.0 m.1 i a) (sym (has-minus (full n) k i) ∙ b.apart i a)) q b.has_q
          ])
    ]

-- exactly one space fits, and it is that of the compatible sets
pub only_compat : (n : ℕ) (compat : List Items) (nos : List Query) (g : List Items) → IsInOrder compat → IsUnionFamily n compat → Fits n compat nos g → IsSettled n (max 1 (n - 1)) compat nos
    → (f : List Items) → Fits n compat nos f ↔ (f ≡ compat)
only_compat n compat nos g order family some settled f = (
  λ fits. same_members f compat fits.in_order order fits.compatible (settled-part n compat nos f order family fits settled),
  λ e. subst (Fits n compat nos) (sym e) (compat_fits n compat nos g order family some),
)
