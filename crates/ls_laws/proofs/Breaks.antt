-- What it is to break a query, and what is left without the members that do.
use Rattle.ls_laws.proofs.Vocabulary.{◌&&◌, ◌<◌, ◌∙◌, ◌∷◌, ◌≡◌, ◌⊎◌, Decides-is_same, IsPart, IsWithin, IsWithin-from, Items, List, Query, ℕ, [], among-filter, and_from, and_parts, ap, breaks, breaks_none, empty, empty-within, false, false_from_ne_true, full, has, has-empty, has-meet, has-union, inl, inr, is_among, is_good, is_same, is_within, is_within-from, left_by, list_all, lt-ltb, ltb, ltb-true, meet, no_common, none_common, not, not-true, not_from_false, or_cases, refl, same_set, same_within, some_breaks, sym, true, true≢false, union, union-left, union-right}
use Rattle.ls_laws.proofs.Lists.{some-among, some-from}

-- ---- good queries

-- A is a nonempty set of items, and q an item outside it
pub record IsGood (n : ℕ) (r : Query) : Type 0 where
  pub small : IsWithin r.a (full n)
  pub nonempty : is_same r.a empty ≡ false
  pub item : r.q < n
  pub outside : has r.a r.q ≡ false

pub good-from : (n : ℕ) (r : Query) → is_good n r ≡ true → IsGood n r
good-from n r h =
    let a = and_parts (not (is_same r.a empty) && is_within r.a (full n) && ltb r.q n) (not (has r.a r.q)) h in
    let b = and_parts (not (is_same r.a empty) && is_within r.a (full n)) (ltb r.q n) a.0 in
    let c = and_parts (not (is_same r.a empty)) (is_within r.a (full n)) b.0 in
    record {
      small = IsWithin-from r.a (full n) c.1;
      nonempty = not-true (is_same r.a empty) c.0;
      item = ltb-true r.q n b.1;
      outside = not-true (has r.a r.q) a.1;
    }

pub good-to : (n : ℕ) (r : Query) → IsGood n r → is_good n r ≡ true
good-to n r g =
    and_from (not (is_same r.a empty) && is_within r.a (full n) && ltb r.q n) (not (has r.a r.q))
    (and_from (not (is_same r.a empty) && is_within r.a (full n)) (ltb r.q n)
    (and_from (not (is_same r.a empty)) (is_within r.a (full n)) (not_from_false (is_same r.a empty) g.nonempty) (is_within-from r.a (full n) g.small))
    (lt-ltb r.q n g.item))
    (not_from_false (has r.a r.q) g.outside)

-- ---- breaking a query

-- k has no item of A, and has q
pub record Breaks (k : Items) (r : Query) : Type 0 where
  pub apart : (i : ℕ) → has k i ≡ true → has r.a i ≡ false
  pub has_q : has k r.q ≡ true

pub Breaks-from : (k : Items) (r : Query) → breaks k r ≡ true → Breaks k r
Breaks-from k r h =
    let p = and_parts (is_same (meet k r.a) empty) (has k r.q) h in
    record {
      apart = λ i. none_common (has k i) (has r.a i) (sym (has-meet k r.a i) ∙ ap (λ s. has s i) ((Decides-is_same (meet k r.a) empty).0 p.0) ∙ has-empty i);
      has_q = p.1;
    }

pub breaks-from : (k : Items) (r : Query) → Breaks k r → breaks k r ≡ true
breaks-from k r h =
    and_from (is_same (meet k r.a) empty) (has k r.q)
    ((Decides-is_same (meet k r.a) empty).1 (same_set (meet k r.a) empty (λ i. has-meet k r.a i ∙ no_common (has k i) (has r.a i) (h.apart i) ∙ sym (has-empty i))))
    h.has_q

-- the empty set breaks nothing
pub breaks-empty : (r : Query) → breaks empty r ≡ false
breaks-empty r = false_from_ne_true (breaks empty r) (λ h. true≢false (sym (Breaks-from empty r h).has_q ∙ has-empty r.q))

-- a union breaks only what a part breaks
breaks-union : (s t : Items) (r : Query) → breaks (union s t) r ≡ true → (breaks s r ≡ true) ⊎ (breaks t r ≡ true)
breaks-union s t r h =
    let b = Breaks-from (union s t) r h in
    elim (or_cases (has s r.q) (has t r.q) (sym (has-union s t r.q) ∙ b.has_q)) [
      | inl a ↦ inl (breaks-from s r (record { apart = λ i x. b.apart i (union-left s t i x); has_q = a }))
      | inr a ↦ inr (breaks-from t r (record { apart = λ i x. b.apart i (union-right s t i x); has_q = a }))
    ]

-- the full set breaks no good query
pub full-unbroken : (n : ℕ) (r : Query) → IsGood n r → breaks (full n) r ≡ false
full-unbroken n r good = false_from_ne_true (breaks (full n) r) (λ h.
    let b = Breaks-from (full n) r h in
    let none : r.a ≡ empty = same_within r.a empty (λ i a. absurd (true≢false (sym a ∙ b.apart i (good.small i a)))) (empty-within r.a) in
    true≢false (sym ((Decides-is_same r.a empty).1 none) ∙ good.nonempty))

pub unbroken-union : (s t : Items) (r : Query) → breaks s r ≡ false → breaks t r ≡ false → breaks (union s t) r ≡ false
unbroken-union s t r a b = false_from_ne_true (breaks (union s t) r) (λ h. elim (breaks-union s t r h) [ inl x ↦ true≢false (sym x ∙ a) | inr x ↦ true≢false (sym x ∙ b) ])

pub breaks_none-empty : (rules : List Query) → breaks_none rules empty ≡ true
breaks_none-empty [] = refl
breaks_none-empty (r ∷ rules) = and_from (not (breaks empty r)) (breaks_none rules empty) (not_from_false (breaks empty r) (breaks-empty r)) (breaks_none-empty rules)

pub breaks_none-union : (rules : List Query) (s t : Items) → breaks_none rules s ≡ true → breaks_none rules t ≡ true → breaks_none rules (union s t) ≡ true
breaks_none-union [] s t _ _ = refl
breaks_none-union (r ∷ rules) s t a b =
    let p = and_parts (not (breaks s r)) (breaks_none rules s) a in
    let q = and_parts (not (breaks t r)) (breaks_none rules t) b in
    and_from (not (breaks (union s t) r)) (breaks_none rules (union s t))
    (not_from_false (breaks (union s t) r) (unbroken-union s t r (not-true (breaks s r) p.0) (not-true (breaks t r) q.0)))
    (breaks_none-union rules s t p.1 q.1)

pub breaks_none-full : (n : ℕ) (rules : List Query) → list_all (is_good n) rules ≡ true → breaks_none rules (full n) ≡ true
breaks_none-full n [] h = refl
breaks_none-full n (r ∷ rules) h =
    let a = and_parts (is_good n r) (list_all (is_good n) rules) h in
    and_from (not (breaks (full n) r)) (breaks_none rules (full n)) (not_from_false (breaks (full n) r) (full-unbroken n r (good-from n r a.0))) (breaks_none-full n rules a.1)

-- ---- some member breaks the query

pub some_breaks-here : (f : List Items) (k : Items) (r : Query) → is_among f k ≡ true → breaks k r ≡ true → some_breaks f r ≡ true
some_breaks-here f k r c h = some-among (λ k. breaks k r) f k c h

pub breaker : (f : List Items) (r : Query) → some_breaks f r ≡ true → (k : Items) × (is_among f k ≡ true) × (breaks k r ≡ true)
breaker f r h = some-from (λ k. breaks k r) f h

pub some_breaks-part : (f g : List Items) (r : Query) → IsPart f g → some_breaks f r ≡ true → some_breaks g r ≡ true
some_breaks-part f g r part h = let b = breaker f r h in some_breaks-here g b.0 r (part b.0 b.1) b.2

-- ---- what is left

pub among-left : (f : List Items) (r : Query) (k : Items) → is_among (left_by r f) k ≡ (is_among f k && not (breaks k r))
among-left f r k = among-filter (λ k. not (breaks k r)) f k

pub among-left_from : (f : List Items) (r : Query) (k : Items) → is_among f k ≡ true → breaks k r ≡ false → is_among (left_by r f) k ≡ true
among-left_from f r k c h = among-left f r k ∙ and_from (is_among f k) (not (breaks k r)) c (not_from_false (breaks k r) h)

pub among-left_parts : (f : List Items) (r : Query) (k : Items) → is_among (left_by r f) k ≡ true → (is_among f k ≡ true) × (breaks k r ≡ false)
among-left_parts f r k h =
    let p = and_parts (is_among f k) (not (breaks k r)) (sym (among-left f r k) ∙ h) in
    (p.0, not-true (breaks k r) p.1)

pub left-unbroken : (f : List Items) (r : Query) → some_breaks (left_by r f) r ≡ false
left-unbroken f r = false_from_ne_true (some_breaks (left_by r f) r) (λ h.
    let b = breaker (left_by r f) r h in true≢false (sym b.2 ∙ (among-left_parts f r b.0 b.1).1))
