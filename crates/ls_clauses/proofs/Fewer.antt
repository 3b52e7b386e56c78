-- Whether a union of a member with a set of a list is missing, by fewer unions.
use Rattle.ls_clauses.proofs.Vocabulary.{◌++◌, ◌∙◌, ◌∷◌, ◌≡◌, Bool, Decides-is_same, Each-among, IsGrown, IsInOrder, IsWithin, IsWithin-from, Items, List, ℕ, among-append, among-cases, among-here, and_parts, ap, arith, cases_Bool, comes_before, comes_before-asymmetric, comes_before-irreflexive, empty, false, false_from_ne_true, has, has-meet, inl, inr, is_among, is_apart, is_missing, is_same, is_within, lacks_apart, list_any, meet, members, not, not-true, not_from_true, or_cases, or_right, refl, same_set, some-among, some-from, some_item, sym, touches, true, true≢false, union, union-left, union-right}
use Rattle.ls_lists.proofs.Bools.{same_truth}
use Rattle.ls_clauses.proofs.Unclosed.{before-part}

-- an item of two sets
touched : (s t : Items) → touches s t ≡ true → (i : ℕ) × (has s i ≡ true) × (has t i ≡ true)
touched s t h = elim (some_item (meet s t)) [
  | inl e ↦ absurd (true≢false (sym ((Decides-is_same (meet s t) empty).1 e) ∙ not-true (is_same (meet s t) empty) h))
  | inr r ↦ let p = and_parts (has s r.0) (has t r.0) (sym (has-meet s t r.0) ∙ r.1) in (r.0, p.0, p.1)
]

-- ---- unions with a part of a set

union-part : (k m b : Items) → IsWithin m b → union (union k m) b ≡ union k b
union-part k m b w = same_set (union (union k m) b) (union k b) (λ j. let h = w j in grind (arith, members, h))

union-whole : (k b : Items) → IsWithin b k → union k b ≡ k
union-whole k b w = same_set (union k b) k (λ j. let h = w j in grind (arith, members, h))

-- two tests that agree on the sets of a list
any-same : (p q : Items → Bool) (g : List Items) → ((b : Items) → is_among g b ≡ true → p b ≡ q b) → list_any p g ≡ list_any q g
any-same p q g same = same_truth (list_any p g) (list_any q g)
    (λ h. let r = some-from p g h in some-among q g r.0 r.1 (sym (same r.0 r.1) ∙ r.2))
    (λ h. let r = some-from q g h in some-among p g r.0 r.1 (same r.0 r.1 ∙ r.2))

-- ---- a member before which no union is missing

module _ (f g before xs : List Items) (k s : Items) (e : before ++ k ∷ xs ≡ f) (order : IsInOrder (k ∷ xs))
    (clean : (y : Items) → is_among before y ≡ true → list_any (is_missing f y) g ≡ false) (grown : IsGrown f g k s) where
  member : is_among f k ≡ true
  member = ap (λ ss. is_among ss k) (sym e) ∙ among-append before (k ∷ xs) k ∙ or_right (is_among before k) (is_among (k ∷ xs) k) (among-here k k xs refl)

  earlier : (y : Items) → is_among f y ≡ true → comes_before y k ≡ true → is_among before y ≡ true
  earlier y a b = elim (or_cases (is_among before y) (is_among (k ∷ xs) y) (sym (among-append before (k ∷ xs) y) ∙ ap (λ ss. is_among ss y) e ∙ a)) [
    | inl h ↦ h
    | inr h ↦ elim (among-cases y k xs h) [
      | inl s ↦ absurd (true≢false (sym b ∙ ap (λ t. comes_before t k) s ∙ comes_before-irreflexive k))
      | inr s ↦ absurd (true≢false (sym b ∙ comes_before-asymmetric k y (Each-among (λ t. comes_before k t ≡ true) xs y order.0 s)))
    ]
  ]

  -- the union with a set that has an item of s is that of an earlier member
  there : (b : Items) → is_among g b ≡ true → touches b s ≡ true → is_missing f k b ≡ false
  there b c t =
      let x = touched b s t in
      let out = grown x.0 x.2 in
      let m = out.1.0 in
      let comes = out.1.1 in
      let u = union k m in
      elim (before-part k u (union-left k m)) [
        | inl same ↦ absurd (true≢false (sym (union-right k m x.0 comes.itself) ∙ ap (λ t. has t x.0) same ∙ out.0))
        | inr first ↦ false_from_ne_true (is_missing f k b) (λ none.
            true≢false (sym (some-among (is_missing f u) g b c (ap (λ t. not (is_among f t)) (union-part k m b (comes.together b c x.1)) ∙ none)) ∙ clean u (earlier u out.1.2 first)))
      ]

  apart : (b : Items) → is_among g b ≡ true → is_missing f k b ≡ is_apart f s k b
  apart b c = elim (cases_Bool (touches b s)) [
    | inl t ↦ rw t (there b c t)
    | inr t ↦ elim (cases_Bool (is_within b k)) [
      | inl w ↦ rw (t, w) (not_from_true (is_among f (union k b)) (ap (is_among f) (union-whole k b (IsWithin-from b k w)) ∙ member))
      | inr w ↦ rw (t, w) refl
    ]
  ]

  pub missing-apart : list_any (is_missing f k) g ≡ lacks_apart f g s k
  missing-apart = any-same (is_missing f k) (is_apart f s k) g apart
