-- The good queries of the blocks: which they are, that they stand in the order, and the next of them.
use Rattle.ls_query.proofs.Vocabulary.{◌&&◌, ◌<◌, ◌∙◌, ◌≡◌, ◌⊎◌, Decides-is_same, IsGood, IsIn, IsSorted, Items, None, Query, Some, ℕ, and_from, and_parts, ap, arith, block_before, blocks, bound, bound-has, empty, false, false_from_ne_true, filter-in, find, find-filter, find-no_element, find-none_is, find_some, flat_map, flat_map-in, good-from, has, in-numbers, inl, inr, is_good, is_same, items, least, len, len-zero, lt-ltb, ltb, ltb-true, map, map-in, next_item, numbers_from, or_cases, or_left, or_right, queries, query_before, refl, slice_get-filter, sorted-filter, sorted-flat_map, sorted-map, subst, suc, sym, true, true≢false, zero}
use Rattle.ls_query.proofs.Sorted.{sorted-numbers}
use Rattle.ls_query.proofs.BlockOrder.{before-cases, before-asymmetric}
use Rattle.ls_query.proofs.BlockSets.{blocks-in, sorted-blocks}

-- ---- items of a set

pub next_item-cases : (s : Items) (a i : ℕ) → next_item s a ≡ Some i → (a < i) × (has s i ≡ true) × ((j : ℕ) → a < j → j < i → has s j ≡ false)
unfolding next_item items
next_item-cases s a i e =
    let h = find_some (λ j. has s j && ltb a j) 0 (bound s) i (sym (find-filter (has s) (λ j. ltb a j) (numbers_from 0 (bound s))) ∙ e) in
    let p = and_parts (has s i) (ltb a i) h.0 in (
      ltb-true a i p.1,
      p.0,
      λ j l m. false_from_ne_true (has s j) (λ k. true≢false (sym (and_from (has s j) (ltb a j) k (lt-ltb a j l)) ∙ h.1 j (omega arith) m)),
    )

pub next_item-none_left : (s : Items) (a j : ℕ) → next_item s a ≡ None → a < j → has s j ≡ false
unfolding next_item items
next_item-none_left s a j e l = false_from_ne_true (has s j) (λ k.
    let inside : j < bound s = bound-has s j k in
    true≢false (sym (and_from (has s j) (ltb a j) k (lt-ltb a j l))
    ∙ find-none_is (λ j. has s j && ltb a j) (numbers_from 0 (bound s)) (sym (find-filter (has s) (λ j. ltb a j) (numbers_from 0 (bound s))) ∙ e) j (in-numbers 0 (bound s) j (omega arith) (omega arith))))

pub least-none_left : (s : Items) (j : ℕ) → least s ≡ None → has s j ≡ false
unfolding least items
least-none_left s j e = false_from_ne_true (has s j) (λ k.
    let inside : j < bound s = bound-has s j k in
    true≢false (sym k ∙ find-none_is (has s) (numbers_from 0 (bound s)) (sym (slice_get-filter (has s) (numbers_from 0 (bound s))) ∙ e) j (in-numbers 0 (bound s) j (omega arith) (omega arith))))

-- ---- the queries

abbrev pub asked_of : Items → ℕ → Query
asked_of a q = record { a = a; q = q }

pub some_items : (n : ℕ) (r : Query) → IsGood n r → 0 < len r.a
some_items n r good = elim (cases_size (len r.a)) [
  | inl e ↦ absurd (true≢false (sym ((Decides-is_same r.a empty).1 (len-zero r.a e)) ∙ good.nonempty))
  | inr l ↦ l
]
  where
    cases_size : (m : ℕ) → (m ≡ 0) ⊎ (0 < m)
    cases_size zero = inl refl
    cases_size (suc m) = inr (omega arith)

pub queries-in : (n k : ℕ) (r : Query) → IsIn r (queries n k) → IsGood n r × IsIn r.a (blocks n k)
unfolding queries
queries-in n k r c =
    let f = filter-in (is_good n) (flat_map (λ a. map (asked_of a) (numbers_from 0 n)) (blocks n k)) r c in
    let m = flat_map-in (λ a. map (asked_of a) (numbers_from 0 n)) (blocks n k) r f.0 in
    let p = map-in (asked_of m.0) (numbers_from 0 n) r m.2 in
    (good-from n r f.1, subst (λ a. IsIn a (blocks n k)) (sym (ap (λ s. s.a) p.2)) m.1)

pub before-by_set : (r s : Query) → block_before r.a s.a ≡ true → query_before r s ≡ true
unfolding query_before
before-by_set r s h = or_left (block_before r.a s.a) (is_same r.a s.a && ltb r.q s.q) h

pub before-by_item : (r s : Query) → r.a ≡ s.a → r.q < s.q → query_before r s ≡ true
unfolding query_before
before-by_item r s e l = or_right (block_before r.a s.a) (is_same r.a s.a && ltb r.q s.q) (and_from (is_same r.a s.a) (ltb r.q s.q) ((Decides-is_same r.a s.a).1 e) (lt-ltb r.q s.q l))

pub query_before-cases : (r s : Query) → query_before r s ≡ true → (block_before r.a s.a ≡ true) ⊎ ((r.a ≡ s.a) × (r.q < s.q))
unfolding query_before
query_before-cases r s h = elim (or_cases (block_before r.a s.a) (is_same r.a s.a && ltb r.q s.q) h) [
  | inl a ↦ inl a
  | inr a ↦ let p = and_parts (is_same r.a s.a) (ltb r.q s.q) a in inr ((Decides-is_same r.a s.a).0 p.0, ltb-true r.q s.q p.1)
]

pub sorted-queries : (n k : ℕ) → IsSorted query_before (queries n k)
unfolding queries
sorted-queries n k =
    sorted-filter query_before (is_good n) (flat_map (λ a. map (asked_of a) (numbers_from 0 n)) (blocks n k))
    (sorted-flat_map block_before query_before (λ a. map (asked_of a) (numbers_from 0 n)) (blocks n k) (sorted-blocks n k)
    (λ a _. sorted-map ltb query_before (asked_of a) (numbers_from 0 n) (sorted-numbers 0 n) (λ x y _ _ l. before-by_item (asked_of a x) (asked_of a y) refl (ltb-true x y l)))
    (λ a b u v h c d.
    let p = map-in (asked_of a) (numbers_from 0 n) u c in
    let q = map-in (asked_of b) (numbers_from 0 n) v d in
    rw (p.2, q.2) (before-by_set (asked_of a p.0) (asked_of b q.0) h)))

-- ---- the order of queries

pub never_before : (a b : Items) → a ≡ b → block_before a b ≡ true → ⊥
never_before a b e h = true≢false (sym h ∙ ap (block_before a) (sym e) ∙ before-asymmetric a a (ap (block_before a) e ∙ h))

pub query_before-asymmetric : (r s : Query) → query_before r s ≡ true → query_before s r ≡ false
query_before-asymmetric r s h = false_from_ne_true (query_before s r) (λ g.
    elim (query_before-cases r s h) [
      | inl x ↦ elim (query_before-cases s r g) [
        | inl y ↦ true≢false (sym y ∙ before-asymmetric r.a s.a x)
        | inr y ↦ never_before r.a s.a (sym y.0) x
      ]
      | inr x ↦ elim (query_before-cases s r g) [
        | inl y ↦ never_before s.a r.a (sym x.0) y
        | inr y ↦ let l = x.1 in let m = y.1 in omega arith
      ]
    ])

-- a query with a larger set comes last
pub find-larger : (n k : ℕ) (r : Query) → k < len r.a → find (query_before r) (queries n k) ≡ None
find-larger n k r many =
    find-no_element (query_before r) (queries n k) (λ c in_queries. false_from_ne_true (query_before r c) (λ h.
    let few = (blocks-in n k c.a (queries-in n k c in_queries).1).few in
    elim (query_before-cases r c h) [
      | inl x ↦ elim (before-cases r.a c.a x) [ inl l ↦ omega arith | inr l ↦ let e = l.0 in omega arith ]
      | inr x ↦ let e : len r.a ≡ len c.a = ap len x.0 in omega arith
    ]))
