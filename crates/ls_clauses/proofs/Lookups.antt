-- A search by halves tells whether a list in order has a set.
use Rattle.ls_clauses.proofs.Vocabulary.{◌∙◌, ◌≡◌, ◌≤◌, Equal, Err, Greater, IsInOrder, Items, Less, List, Ok, Result, ℕ, ap, arith, cases_eq, cases_lt, comes_before, comes_before-asymmetric, comes_before-irreflexive, comes_before-transitive, empty, false_from_ne_true, get_or, get_or_default, inl, inr, is_among, is_ok, length, order_cases, order_of, refl, subst, sym, true}
use Rattle.std.specs.Ordering.{ordering_index}
use Rattle.std.specs.List.Sorted.{IsBinarySearchResult, IsSearchInRange, IsNonDecreasingBy}
use Rattle.ls_clauses.proofs.Places.{place-of, among-at, in_order-at}

-- ---- how two sets stand

order-less : (s t : Items) → comes_before s t ≡ true → order_of s t ≡ Less
order-less s t h = rw h refl

order-greater : (s t : Items) → comes_before t s ≡ true → order_of s t ≡ Greater
order-greater s t h = rw (comes_before-asymmetric t s h, h) refl

order-self : (s : Items) → order_of s s ≡ Equal
order-self s = rw (comes_before-irreflexive s) refl

order-equal : (s t : Items) → order_of s t ≡ Equal → s ≡ t
order-equal s t e = elim (order_cases s t) [
  | inl h ↦ h
  | inr h ↦ elim h [
    | inl a ↦ absurd (let z : Less ≡ Equal = sym (order-less s t a) ∙ e in cc)
    | inr a ↦ absurd (let z : Greater ≡ Equal = sym (order-greater s t a) ∙ e in cc)
  ]
]

-- ---- the search

later : (s x y : Items) → comes_before x y ≡ true → ordering_index (order_of x s) ≤ ordering_index (order_of y s)
later s x y b = elim (order_cases x s) [
  | inl e ↦ rw (ap (λ t. order_of t s) e ∙ order-self s, order-greater y s (subst (λ t. comes_before t y ≡ true) e b)) (omega arith)
  | inr h ↦ elim h [
    | inl a ↦ rw (order-less x s a) (omega arith)
    | inr a ↦ rw (order-greater x s a, order-greater y s (comes_before-transitive s x y a b)) (omega arith)
  ]
]

rises : (f : List Items) (s : Items) → IsInOrder f → IsNonDecreasingBy (λ t. ordering_index (order_of t s)) f
rises f s order i j d a b = elim (cases_eq i j) [
  | inl e ↦ subst (λ k. ordering_index (order_of (get_or f i d) s) ≤ ordering_index (order_of (get_or f k d) s)) e (omega arith)
  | inr n ↦
      rw (get_or_default f i d empty (omega arith), get_or_default f j d empty b)
      (later s (get_or f i empty) (get_or f j empty) (in_order-at f i j order (omega arith) b))
]

pub found-by-halves : (f : List Items) (s : Items) (r : Result ℕ ℕ) → IsInOrder f → IsSearchInRange r (length f) → IsBinarySearchResult (λ t. order_of t s) f r → is_ok r ≡ is_among f s
found-by-halves f s (Ok i) order range told = sym (subst (λ t. is_among f t ≡ true) (order-equal (get_or f i empty) s (told empty)) (among-at f i range))
found-by-halves f s (Err i) order range told = sym (false_from_ne_true (is_among f s) (λ c.
    let p = place-of f s c in
    let l = p.1 in
    let equal : order_of (get_or f p.0 empty) s ≡ Equal = ap (λ t. order_of t s) p.2 ∙ order-self s in
    let parts = told (rises f s order) in
    elim (cases_lt p.0 i) [
      | inl a ↦ let z : Less ≡ Equal = sym (parts.0 p.0 empty (omega arith) a) ∙ equal in cc
      | inr a ↦ let z : Greater ≡ Equal = sym (parts.1 p.0 empty a l) ∙ equal in cc
    ]))
