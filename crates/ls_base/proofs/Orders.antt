-- The order of sets compares any two sets; what is left of sets put in it, each once.
use Rattle.ls_base.proofs.Vocabulary.{◌+◌, ◌<◌, ◌||◌, ◌∙◌, ◌∷◌, ◌≡◌, ◌⊎◌, AllByRecursion, Bool, Decides-is_same, IsInOrder, Items, List, None, Some, ℕ, [], among-cases, among-here, among-there, ap, arith, beq-cases, beq-same, comes_before, comes_before-asymmetric, comes_before-at, comes_before-transitive, cond, dedup, dedup_from, differing, false, false_from_ne_true, get_or, has, has-differing, has-empty, inl, inr, is_among, is_same, least, least-cases, len, len-zero, length, refl, same_set, subst, suc, sym, true, true≢false}
use Rattle.std.specs.Cmp.{IsStrictWeakOrder}
use Rattle.std.specs.List.Sorted.{IsSortedBy}
use Rattle.ls_set.proofs.Firsts.{items-none}

same_from_none : (s t : Items) → least (differing s t) ≡ None → s ≡ t
unfolding len
same_from_none s t e = same_set s t (λ i.
    beq-same (has s i) (has t i) (sym (has-differing s t i) ∙ ap (λ u. has u i) (len-zero (differing s t) (ap length (items-none (differing s t) e))) ∙ has-empty i))

-- of two sets one comes before the other, or they are one
pub order_cases : (s t : Items) → (s ≡ t) ⊎ ((comes_before s t ≡ true) ⊎ (comes_before t s ≡ true))
order_cases s t = elim (least (differing s t)) as (λ o. least (differing s t) ≡ o → (s ≡ t) ⊎ ((comes_before s t ≡ true) ⊎ (comes_before t s ≡ true))) [
  | None ↦ λ e. inl (same_from_none s t e)
  | Some i ↦ λ e.
      let first = least-cases (differing s t) i e in
      let below = λ (j : ℕ) (l : j < i). beq-same (has s j) (has t j) (sym (has-differing s t j) ∙ first.1 j l) in
      inr (elim (beq-cases (has s i) (has t i) (sym (has-differing s t i) ∙ first.0)) [
        | inl a ↦ inl (comes_before-at s t i (record { in_first = a.0; not_in_second = a.1; same_below = below }))
        | inr a ↦ inr (comes_before-at t s i (record { in_first = a.0; not_in_second = a.1; same_below = λ j l. sym (below j l) }))
      ])
] refl

comes_before-chain : (s t u : Items) → comes_before s t ≡ false → comes_before t u ≡ false → comes_before s u ≡ false
comes_before-chain s t u a b = false_from_ne_true (comes_before s u) (λ h. elim (order_cases s t) [
  | inl e ↦ true≢false (sym (subst (λ x. comes_before x u ≡ true) e h) ∙ b)
  | inr (inl c) ↦ true≢false (sym c ∙ a)
  | inr (inr c) ↦ true≢false (sym (comes_before-transitive t s u c h) ∙ b)
])

pub order_of_sets : IsStrictWeakOrder comes_before
order_of_sets = record { one_way = comes_before-asymmetric; chain = comes_before-chain }

pub Each-from : (P : Items → Type 0) (f : List Items) → ((k : Items) → is_among f k ≡ true → P k) → AllByRecursion P f
Each-from P [] h = tt
Each-from P (t ∷ f) h = (h t (among-here t t f refl), Each-from P f (λ k c. h k (among-there k t f c)))

-- no set comes before an earlier one
abbrev pub Ascends : List Items → Type 0
Ascends [] = Unit {0}
Ascends (s ∷ ss) = ((t : Items) → is_among ss t ≡ true → comes_before t s ≡ false) × Ascends ss

pub Ascends-sorted : (xs : List Items) → IsSortedBy comes_before xs → Ascends xs
Ascends-sorted [] h = tt
Ascends-sorted (s ∷ []) h = ((λ t c. absurd (true≢false (sym c))), tt)
Ascends-sorted (s ∷ t ∷ ts) h =
    let rest = Ascends-sorted (t ∷ ts) (λ k d l m.
    let e : suc k + 1 ≡ suc (k + 1) = omega arith in
    subst (λ i. comes_before (get_or (s ∷ t ∷ ts) i d) (get_or (s ∷ t ∷ ts) (suc k) d) ≡ false) e (h (suc k) d (omega arith) (omega arith))) in
    let first : comes_before t s ≡ false = h 0 s (omega arith) (omega arith) in (
      λ u c. elim (among-cases u t ts c) [ inl e ↦ subst (λ x. comes_before x s ≡ false) (sym e) first | inr a ↦ comes_before-chain u t s (rest.0 u a) first ],
      rest,
    )

-- ---- each set once

later_once : (k x : Items) (xs : List Items) → Ascends (k ∷ x ∷ xs) → is_same x k ≡ false → (t : Items) → is_among (x ∷ xs) t ≡ true → comes_before k t ≡ true
later_once k x xs a n t c =
    let first : comes_before k x ≡ true = elim (order_cases k x) [
      | inl e ↦ absurd (true≢false (sym ((Decides-is_same x k).1 (sym e)) ∙ n))
      | inr (inl b) ↦ b
      | inr (inr b) ↦ absurd (true≢false (sym b ∙ a.0 x (among-here x x xs refl)))
    ] in
    elim (order_cases k t) [
      | inl e ↦ elim (among-cases t x xs c) [
        | inl q ↦ subst (λ y. comes_before k y ≡ true) (sym q) first
        | inr d ↦ absurd (true≢false (sym first ∙ subst (λ y. comes_before y x ≡ false) (sym e) (a.1.0 t d)))
      ]
      | inr (inl b) ↦ b
      | inr (inr b) ↦ absurd (true≢false (sym b ∙ a.0 t c))
    ]

among-dedup_from : (k : Items) (xs : List Items) (t : Items) → is_among (dedup_from is_same k xs) t ≡ is_among (k ∷ xs) t
among-dedup_from k [] t = refl
among-dedup_from k (x ∷ xs) t = elim (is_same x k) as (λ b. is_same x k ≡ b → is_among (cond b (dedup_from is_same k xs) (k ∷ dedup_from is_same x xs)) t ≡ is_among (k ∷ x ∷ xs) t) [
  | true ↦ λ e.
      let same = (Decides-is_same x k).0 e in
      among-dedup_from k xs t ∙ again (is_same t k) (is_among xs t) ∙ ap (λ y. is_same t k || (is_same t y || is_among xs t)) (sym same)
  | false ↦ λ e. ap (λ b. is_same t k || b) (among-dedup_from x xs t)
] refl
  where
    again : (p q : Bool) → (p || q) ≡ (p || (p || q))
    again true q = refl
    again false q = refl

dedup_from-in_order : (k : Items) (xs : List Items) → Ascends (k ∷ xs) → IsInOrder (dedup_from is_same k xs)
dedup_from-in_order k [] a = (tt, tt)
dedup_from-in_order k (x ∷ xs) a = elim (is_same x k) as (λ b. is_same x k ≡ b → IsInOrder (cond b (dedup_from is_same k xs) (k ∷ dedup_from is_same x xs))) [
  | true ↦ λ e. dedup_from-in_order k xs (λ t c. a.0 t (among-there t x xs c), a.1.1)
  | false ↦ λ e. (
    Each-from (λ t. comes_before k t ≡ true) (dedup_from is_same x xs) (λ t c. later_once k x xs a e t (sym (among-dedup_from x xs t) ∙ c)),
    dedup_from-in_order x xs a.1,
  )
] refl

pub among-dedup : (xs : List Items) (t : Items) → is_among (dedup is_same xs) t ≡ is_among xs t
among-dedup [] t = refl
among-dedup (x ∷ xs) t = among-dedup_from x xs t

-- of sets none of which comes before an earlier one, each once is in order
pub dedup-in_order : (xs : List Items) → Ascends xs → IsInOrder (dedup is_same xs)
dedup-in_order [] a = tt
dedup-in_order (x ∷ xs) a = dedup_from-in_order x xs a
