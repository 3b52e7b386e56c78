-- What lies below a set of a list in order comes after it; what is needed spans the list.
use Rattle.ls_base.proofs.Vocabulary.{◌&&◌, ◌∙◌, ◌∷◌, ◌≡◌, ◌≤◌, Bool, Decides-is_same, Each-among, IsInOrder, IsWithin-from, Items, List, Spans, and_parts, ap, arith, base, base-of, base-spans, comes_before, comes_before-asymmetric, differs_first, either_first, false, false_from_ne_true, inl, inr, interior-member, is_among, is_proper, is_same, is_within, length, length-filter_both, needed, not, or_cases, refl, sym, true, true≢false, union_below}
use Rattle.ls_base.proofs.Below.{interior-same}

-- a set that lies within another and is not the same comes after it
pub proper-later : (k l : Items) → is_proper k l ≡ true → comes_before l k ≡ true
proper-later k l h =
    let p = and_parts (is_within k l) (not (is_same k l)) h in
    let ne = λ (e : k ≡ l). true≢false (sym p.1 ∙ ap not ((Decides-is_same k l).1 e)) in
    elim (or_cases (comes_before k l) (comes_before l k) (either_first k l ne)) [
      | inl a ↦ let d = differs_first k l a in let x = d.1 in absurd (true≢false (sym (IsWithin-from k l p.0 d.0 x.in_first) ∙ x.not_in_second))
      | inr b ↦ b
    ]

-- so a set of a list in order lies within no later one
pub first-not_proper : (k : Items) (rest : List Items) (l : Items) → IsInOrder (k ∷ rest) → is_among rest l ≡ true → is_proper k l ≡ false
first-not_proper k rest l order c = false_from_ne_true (is_proper k l) (λ h.
    true≢false (sym (proper-later k l h) ∙ comes_before-asymmetric k l (Each-among (λ t. comes_before k t ≡ true) rest l order.0 c)))

same-not_proper : (k : Items) → is_proper k k ≡ false
same-not_proper k = rw ((Decides-is_same k k).1 refl) (false-right (is_within k k))
  where
    false-right : (b : Bool) → (b && false) ≡ false
    false-right true = refl
    false-right false = refl

-- the sets of a list that are needed span it
pub needed-spans : (f : List Items) → Spans (needed f) f
needed-spans f l c = sym (interior-same (base f) (needed f) l (base-of f f (λ k h. h) (λ k h. interior-member f k h))) ∙ base-spans f l c

-- and are no more
pub needed-few : (sets : List Items) → length (needed sets) ≤ length sets
unfolding needed
needed-few sets = let p = λ (k : Items). not (is_same (union_below sets k) k) in omega (arith, length-filter_both p (λ k. not (p k)) (λ _. refl) sets)

-- below a set of the list lies what lies below it in the rest
pub below-first : (k : Items) (rest : List Items) → union_below (k ∷ rest) k ≡ union_below rest k
below-first k rest = rw (same-not_proper k) refl

pub below-later : (k : Items) (rest : List Items) (l : Items) → IsInOrder (k ∷ rest) → is_among rest l ≡ true → union_below (k ∷ rest) l ≡ union_below rest l
below-later k rest l order c = rw (first-not_proper k rest l order c) refl
