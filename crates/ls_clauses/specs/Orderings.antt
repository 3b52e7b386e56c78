-- The order of sets as a comparison.
use Rattle.std.specs.Prelude.{if◌then◌else◌}
use Rattle.std.proofs.Common.{◌≡◌, inl, inr, true, refl, sym, ap, ◌∙◌, subst, ◌==◌}
use Rattle.std.specs.Ordering.{ordering_reverse, is_eq, as_partial_cmp}
use Rattle.std.specs.Cmp.{IsTotalOrder, IsPartialOrder, partial_order_from_agreeing_total}
use Rattle.std.specs.declared.cmp.Ordering.{Ordering}
use Rattle.std.specs.declared.cmp.Ordering.TheVariants.{Less, Equal, Greater}
use Rattle.ls_set.specs.{Items, comes_before, is_same}
use Rattle.ls_lists.proofs.Bools.{same_truth}
use Rattle.ls_set.proofs.Sets.{Decides-is_same}
use Rattle.ls_set.proofs.Order.{comes_before-irreflexive, comes_before-asymmetric}
use Rattle.ls_set.proofs.Order.{comes_before-transitive, order_cases}

-- how a set stands to another: before it, after it, or neither
abbrev pub order_of : Items → Items → Ordering
order_of s t = if comes_before s t then Less else (if comes_before t s then Greater else Equal)

-- a set that comes before the other compares as less
pub order-less : (s t : Items) → comes_before s t ≡ true → order_of s t ≡ Less
order-less s t h = rw h refl

-- a set that comes after the other compares as greater
pub order-greater : (s t : Items) → comes_before t s ≡ true → order_of s t ≡ Greater
order-greater s t h = rw (comes_before-asymmetric t s h, h) refl

-- a set compares as equal with itself
pub order-self : (s : Items) → order_of s s ≡ Equal
order-self s = rw (comes_before-irreflexive s) refl

-- sets that compare as equal are one set
pub order-equal : (s t : Items) → order_of s t ≡ Equal → s ≡ t
order-equal s t e = elim (order_cases s t) [
  | inl h ↦ h
  | inr h ↦ elim h [
    | inl a ↦ absurd (let z : Less ≡ Equal = sym (order-less s t a) ∙ e in cc)
    | inr a ↦ absurd (let z : Greater ≡ Equal = sym (order-greater s t a) ∙ e in cc)
  ]
]

-- a set that compares as less comes before the other
pub order-before : (s t : Items) → order_of s t ≡ Less → comes_before s t ≡ true
order-before s t e = elim (order_cases s t) [
  | inl h ↦ absurd (
      let z : Less ≡ Equal = sym e ∙ ap (λ u. order_of s u) (sym h) ∙ order-self s in cc
      )
  | inr h ↦ elim h [
    | inl a ↦ a
    | inr a ↦ absurd (let z : Less ≡ Greater = sym e ∙ order-greater s t a in cc)
  ]
]

-- the comparison the other way round gives the reverse
turned : (s t : Items) → order_of s t ≡ ordering_reverse (order_of t s)
turned s t = elim (order_cases s t) [
  | inl h ↦ subst (λ u. order_of s u ≡ ordering_reverse (order_of u s)) h (rw (order-self s) refl)
  | inr h ↦ elim h [
    | inl a ↦ rw (order-less s t a, order-greater t s a) refl
    | inr a ↦ rw (order-greater s t a, order-less t s a) refl
  ]
]

-- the comparison of sets is a total order
pub order_of-total : IsTotalOrder order_of
order_of-total = record {
  antisymm = turned;
  trans = λ s t u a b.
      order-less s u (comes_before-transitive s t u (order-before s t a) (order-before t u b));
  congr = λ s t u e. ap (λ v. order_of v u) (order-equal s t e);
}

-- an ordering that counts as equal is `Equal`
is_eq-equal : (o : Ordering) → is_eq o ≡ true → o ≡ Equal
is_eq-equal Less e = cc
is_eq-equal Equal e = refl
is_eq-equal Greater e = cc

-- two sets are the same just where they compare as equal
pub same-order : (s t : Items) → is_same s t ≡ is_eq (order_of s t)
same-order s t = same_truth _ _
    (λ h. ap is_eq (ap (λ u. order_of s u) (sym ((Decides-is_same s t).0 h)) ∙ order-self s))
    (λ e. (Decides-is_same s t).1 (order-equal s t (is_eq-equal (order_of s t) e)))

-- two sets have the same digits just where they compare as equal
pub same-by_order : (s t : Items) → (s.digits == t.digits) ≡ is_eq (order_of s t)
unfolding is_same
same-by_order = same-order

-- as a partial comparison, it is in accord with sameness of digits
pub order_of-partial :
    IsPartialOrder (λ (s t : Items). s.digits == t.digits) (as_partial_cmp order_of)
order_of-partial =
    partial_order_from_agreeing_total order_of order_of-total (λ s t. refl) same-by_order
