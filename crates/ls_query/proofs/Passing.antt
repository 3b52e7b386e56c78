-- The first query of the blocks that passes a test, set by set.
use Rattle.ls_query.proofs.Vocabulary.{◌&&◌, ◌<◌, ◌∙◌, ◌≡◌, ◌≤◌, Bool, Decides-is_same, IsGood, IsIn, IsWithin, Items, List, None, Query, Some, ℕ, and-true, and_from, and_left, and_parts, and_right, ap, ap₂, arith, block_before, blocks, cases_lt, comes_after, empty, false, false_from_ne_true, filter, find, find-filter, find-first, find-is, find-no_element, find-none_is, find-same, full, good-from, good-to, has, has-full, has-minus, in-queries, inl, inr, is_good, is_same, is_within-from, least, least-cases, len, len-empty, len-less, lt-ltb, ltb, members, minus, next_item, not, position, queries, query_before, refl, same_truth, sym, true, true≢false}
use Rattle.ls_query.proofs.Sorted.{sorted-cases}
use Rattle.ls_query.proofs.BlockOrder.{before-smaller, before-transitive, before-asymmetric}
use Rattle.ls_query.proofs.BlockSets.{IsOfBlocks, in-blocks, blocks-in, sorted-blocks}
use Rattle.ls_query.proofs.QuerySets.{next_item-cases, next_item-none_left, least-none_left, asked_of, some_items, queries-in, sorted-queries, never_before, before-by_set, before-by_item, query_before-cases, query_before-asymmetric, find-larger}
use Rattle.ls_query.proofs.Placed.{block_place}

-- those items q of a set A for which (A, q) is a good query that passes
abbrev pub ArePassing : ℕ → (Query → Bool) → Items → Items → Type 0
ArePassing n p a those = (q : ℕ) → has those q ≡ (is_good n (asked_of a q) && p (asked_of a q))

-- what is none of those does not pass
not_passing : (n : ℕ) (p : Query → Bool) (a those : Items) (c : Query) → ArePassing n p a those → IsGood n c → c.a ≡ a → has those c.q ≡ false → p c ≡ false
not_passing n p a those c opens good e h = false_from_ne_true (p c) (λ g.
    true≢false (sym (opens c.q ∙ ap (λ b. is_good n (asked_of b c.q) && p (asked_of b c.q)) (sym e) ∙ and_from (is_good n c) (p c) (good-to n c good) g) ∙ h))

-- the first of those of the first set after the last
pub first-passing : (n k : ℕ) (p : Query → Bool) (last a those : Items) (q : ℕ) → find (block_before last) (blocks n k) ≡ Some a → ArePassing n p a those → least those ≡ Some q
    → find (λ s. block_before last s.a && p s) (queries n k) ≡ Some (asked_of a q)
first-passing n k p last a those q e opens l =
    let h = find-is block_before (block_before last) (blocks n k) a (sorted-blocks n k) before-asymmetric e in
    let y = least-cases those q l in
    let g = and_parts (is_good n (asked_of a q)) (p (asked_of a q)) (sym (opens q) ∙ y.0) in
    let x = blocks-in n k a h.0 in
    find-first query_before (λ s. block_before last s.a && p s) (queries n k) (asked_of a q) (sorted-queries n k)
    (in-queries n k (asked_of a q) (good-from n (asked_of a q) g.0) x.few)
    (and_from (block_before last a) (p (asked_of a q)) h.1 g.1)
    (λ c in_queries b.
    let d = queries-in n k c in_queries in
    elim (query_before-cases c (asked_of a q) b) [
      | inl z ↦ and_left (block_before last c.a) (p c) (h.2 c.a d.1 z)
      | inr z ↦ and_right (block_before last c.a) (p c) (not_passing n p a those c opens d.0 z.0 (y.1 c.q z.1))
    ])

-- a set with none is passed over
pub none-passing : (n k : ℕ) (p : Query → Bool) (last a those : Items) → find (block_before last) (blocks n k) ≡ Some a → ArePassing n p a those → least those ≡ None
    → find (λ s. block_before last s.a && p s) (queries n k) ≡ find (λ s. block_before a s.a && p s) (queries n k)
none-passing n k p last a those e opens l =
    let h = find-is block_before (block_before last) (blocks n k) a (sorted-blocks n k) before-asymmetric e in
    find-same (λ s. block_before last s.a && p s) (λ s. block_before a s.a && p s) (queries n k) (λ c in_queries.
    let d = queries-in n k c in_queries in
    same_truth (block_before last c.a && p c) (block_before a c.a && p c)
    (λ g.
    let x = and_parts (block_before last c.a) (p c) g in
    elim (sorted-cases block_before (blocks n k) a c.a (sorted-blocks n k) h.0 d.1) [
      | inl z ↦ absurd (true≢false (sym x.1 ∙ not_passing n p a those c opens d.0 (sym z) (least-none_left those c.q l)))
      | inr z ↦ elim z [
        | inl m ↦ and_from (block_before a c.a) (p c) m x.1
        | inr m ↦ absurd (true≢false (sym x.0 ∙ h.2 c.a d.1 m))
      ]
    ])
    (λ g. let x = and_parts (block_before a c.a) (p c) g in and_from (block_before last c.a) (p c) (before-transitive last a c.a h.1 x.0) x.1))

-- after the last set there is none
pub passing-end : (n k : ℕ) (p : Query → Bool) (last : Items) → find (block_before last) (blocks n k) ≡ None → find (λ s. block_before last s.a && p s) (queries n k) ≡ None
passing-end n k p last e =
    find-no_element (λ s. block_before last s.a && p s) (queries n k) (λ c in_queries.
    and_left (block_before last c.a) (p c) (find-none_is (block_before last) (blocks n k) e c.a (queries-in n k c in_queries).1))

-- ---- after a query

-- the next of those of its set
pub next-passing : (n k : ℕ) (p : Query → Bool) (r : Query) (those : Items) (q : ℕ) → IsIn r.a (blocks n k) → ArePassing n p r.a those → next_item those r.q ≡ Some q
    → find p (filter (comes_after query_before (Some r)) (queries n k)) ≡ Some (asked_of r.a q)
next-passing n k p r those q here opens e =
    let h = next_item-cases those r.q q e in
    let g = and_parts (is_good n (asked_of r.a q)) (p (asked_of r.a q)) (sym (opens q) ∙ h.1) in
    find-filter (comes_after query_before (Some r)) p (queries n k)
    ∙ find-first query_before (λ s. query_before r s && p s) (queries n k) (asked_of r.a q) (sorted-queries n k)
    (in-queries n k (asked_of r.a q) (good-from n (asked_of r.a q) g.0) (blocks-in n k r.a here).few)
    (and_from (query_before r (asked_of r.a q)) (p (asked_of r.a q)) (before-by_item r (asked_of r.a q) refl h.0) g.1)
    (λ c in_queries b. false_from_ne_true (query_before r c && p c) (λ f.
    let x = and_parts (query_before r c) (p c) f in
    let d = queries-in n k c in_queries in
    elim (query_before-cases c (asked_of r.a q) b) [
      | inl z ↦ true≢false (sym (before-by_set c r z) ∙ query_before-asymmetric r c x.0)
      | inr z ↦ elim (query_before-cases r c x.0) [
        | inl y ↦ never_before r.a c.a (sym z.0) y
        | inr y ↦ true≢false (sym x.1 ∙ not_passing n p r.a those c opens d.0 z.0 (h.2 c.q y.1 z.1))
      ]
    ]))

-- where its set has no further one, the search goes on behind the set
pub passing-later : (n k : ℕ) (p : Query → Bool) (r : Query) (those : Items) → ArePassing n p r.a those → next_item those r.q ≡ None
    → find (λ s. block_before r.a s.a && p s) (queries n k) ≡ find p (filter (comes_after query_before (Some r)) (queries n k))
passing-later n k p r those opens e =
    find-same (λ s. block_before r.a s.a && p s) (λ s. query_before r s && p s) (queries n k) (λ c in_queries.
    let d = queries-in n k c in_queries in
    same_truth (block_before r.a c.a && p c) (query_before r c && p c)
    (λ g. let x = and_parts (block_before r.a c.a) (p c) g in and_from (query_before r c) (p c) (before-by_set r c x.0) x.1)
    (λ g.
    let x = and_parts (query_before r c) (p c) g in
    elim (query_before-cases r c x.0) [
      | inl y ↦ and_from (block_before r.a c.a) (p c) y x.1
      | inr y ↦ absurd (true≢false (sym x.1 ∙ not_passing n p r.a those c opens d.0 (sym y.0) (next_item-none_left those r.q c.q e y.1)))
    ]))
    ∙ sym (find-filter (comes_after query_before (Some r)) p (queries n k))

-- behind a query whose set is too large there is none
pub passing-outside : (n k : ℕ) (p : Query → Bool) (r : Query) → IsGood n r → position (is_same r.a) (blocks n k) ≡ None → find p (filter (comes_after query_before (Some r)) (queries n k)) ≡ None
passing-outside n k p r good e =
    let some = some_items n r good in
    let out : IsOfBlocks n k r.a → ⊥ = λ x. let i = block_place n k r.a (in-blocks n k r.a x) in let f = sym e ∙ i.1 in cc in
    let many : k < len r.a = elim (cases_lt k (len r.a)) [
      | inl l ↦ l
      | inr l ↦ absurd (out (record { within = good.small; some = some; few = l }))
    ] in
    find-filter (comes_after query_before (Some r)) p (queries n k)
    ∙ find-no_element (λ s. query_before r s && p s) (queries n k) (λ c in_queries.
    and_left (query_before r c) (p c) (find-none_is (query_before r) (queries n k) (find-larger n k r many) c in_queries))

-- all of them come behind the empty set
pub passing-all : (n k : ℕ) (p : Query → Bool) → find (λ s. block_before empty s.a && p s) (queries n k) ≡ find p (filter (comes_after query_before None) (queries n k))
passing-all n k p =
    find-same (λ s. block_before empty s.a && p s) (λ s. true && p s) (queries n k) (λ c in_queries.
    let some = (blocks-in n k c.a (queries-in n k c in_queries).1).some in
    ap (λ b. b && p c) (before-smaller empty c.a (omega (arith, len-empty))))
    ∙ sym (find-filter (comes_after query_before None) p (queries n k))

-- ---- where every query passes

-- those of a set are all items outside it
pub good_items : (n : ℕ) (a : Items) (q : ℕ) → IsWithin a (full n) → 0 < len a → has (minus (full n) a) q ≡ is_good n (asked_of a q)
good_items n a q within some =
    let nonempty : is_same a empty ≡ false = false_from_ne_true (is_same a empty) (λ s. let m : len a ≡ len empty = ap len ((Decides-is_same a empty).0 s) in let z : len empty ≡ 0 = len-empty in absurd (omega arith)) in
    has-minus (full n) a q ∙ ap (λ u. u && not (has a q)) (has-full n q)
    ∙ sym (ap₂ (λ u v. ((not u && v) && ltb q n) && not (has a q)) nonempty (is_within-from a (full n) within))

all-passing : (n : ℕ) (a : Items) → IsWithin a (full n) → 0 < len a → ArePassing n (λ _. true) a (minus (full n) a)
all-passing n a within some q = good_items n a q within some ∙ sym (and-true (is_good n (asked_of a q)))

find-all : (p : Query → Bool) (qs : List Query) → find p qs ≡ find (λ s. p s && true) qs
find-all p qs = find-same p (λ s. p s && true) qs (λ s _. sym (and-true (p s)))

pub find-with_same : (n k : ℕ) (r : Query) (q : ℕ) → IsGood n r → len r.a ≤ k → next_item (minus (full n) r.a) r.q ≡ Some q → find (query_before r) (queries n k) ≡ Some (asked_of r.a q)
find-with_same n k r q good few e =
    let some = some_items n r good in
    find-all (query_before r) (queries n k) ∙ sym (find-filter (query_before r) (λ _. true) (queries n k))
    ∙ next-passing n k (λ _. true) r (minus (full n) r.a) q (in-blocks n k r.a (record { within = good.small; some = some; few = few })) (all-passing n r.a good.small some) e

pub find-no_more : (n k : ℕ) (r : Query) → IsGood n r → next_item (minus (full n) r.a) r.q ≡ None → find (λ s. block_before r.a s.a) (queries n k) ≡ find (query_before r) (queries n k)
find-no_more n k r good e =
    find-all (λ s. block_before r.a s.a) (queries n k)
    ∙ passing-later n k (λ _. true) r (minus (full n) r.a) (all-passing n r.a good.small (some_items n r good)) e
    ∙ find-filter (query_before r) (λ _. true) (queries n k) ∙ sym (find-all (query_before r) (queries n k))

pub first-queries : (n k : ℕ) → find (λ s. block_before empty s.a) (queries n k) ≡ find (comes_after query_before None) (queries n k)
first-queries n k =
    find-all (λ s. block_before empty s.a) (queries n k) ∙ passing-all n k (λ _. true)
    ∙ find-filter (comes_after query_before None) (λ _. true) (queries n k) ∙ sym (find-all (comes_after query_before None) (queries n k))

pub find-after_set : (n k : ℕ) (a b : Items) (q : ℕ) → find (block_before a) (blocks n k) ≡ Some b → least (minus (full n) b) ≡ Some q → find (λ s. block_before a s.a) (queries n k) ≡ Some (asked_of b q)
find-after_set n k a b q e l =
    let x = blocks-in n k b (find-is block_before (block_before a) (blocks n k) b (sorted-blocks n k) before-asymmetric e).0 in
    find-all (λ s. block_before a s.a) (queries n k) ∙ first-passing n k (λ _. true) a b (minus (full n) b) q e (all-passing n b x.within x.some) l

-- the set of all items is last, and has no query
pub find-full : (n k : ℕ) (a b : Items) → find (block_before a) (blocks n k) ≡ Some b → least (minus (full n) b) ≡ None → find (λ s. block_before a s.a) (queries n k) ≡ None
find-full n k a b e l =
    let h = find-is block_before (block_before a) (blocks n k) b (sorted-blocks n k) before-asymmetric e in
    find-no_element (λ s. block_before a s.a) (queries n k) (λ c in_queries.
    let d = queries-in n k c in_queries in
    let good = d.0 in
    let all : (j : ℕ) → has (full n) j ≡ true → has b j ≡ true = λ j m. let none = least-none_left (minus (full n) b) j l in grind (arith, members) in
    h.2 c.a d.1 (before-smaller c.a b (len-less c.a b c.q (λ j m. all j (good.small j m)) good.outside (all c.q (has-full n c.q ∙ lt-ltb c.q n good.item)))))

pub find-none_after : (n k : ℕ) (a : Items) → find (block_before a) (blocks n k) ≡ None → find (λ s. block_before a s.a) (queries n k) ≡ None
find-none_after n k a e =
    find-no_element (λ s. block_before a s.a) (queries n k) (λ c in_queries. find-none_is (block_before a) (blocks n k) e c.a (queries-in n k c in_queries).1)
