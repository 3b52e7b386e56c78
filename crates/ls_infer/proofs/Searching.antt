-- What is outside the closure of a set, and the first open query from a given one on.
use Rattle.ls_infer.proofs.Vocabulary.{◌&&◌, ◌<◌, ◌∙◌, ◌∷◌, ◌≡◌, ◌≤◌, ArePassing, BlockRange, Bool, Interview, IsGood, IsIn, IsSound, Items, List, None, Query, Some, StandingNo, ℕ, [], and_from, and_parts, ap, ap₂, arith, asked_of, before-by_item, before-by_set, block_before, blocks, blocks-in, closure, compatible_sets, cond, false, false_from_ne_true, find, find-first, find-same, full, good-from, good-to, good_items, has, has-full, has-minus, inl, inr, interior, interior-within, is_good, is_open, is_open_by, least, least-cases, least-none_left, ltb, ltb-false, ltb-true, map, minus, minus-within, never_before, nos, not, not-true, not_from_false, outside_of, queries, queries-in, block_queries, query_before, query_before-asymmetric, query_before-cases, refl, same_truth, slice_get, sorted-queries, spaces_of, standing, suc, sym, true, true_from_ne_false, true≢false, zero}
use Rattle.ls_laws.proofs.Blocks.{in-queries}
use Rattle.ls_query.proofs.Sorted.{sorted-cases}
use Rattle.ls_infer.proofs.Outside.{out-parts, out-from}
use Rattle.ls_infer.proofs.Questions.{open-by}

-- ---- outside a closure

-- those for which the query of the set is good, and not decided by the closure
pub outside-good : (n k : ℕ) (f : List Items) (a : Items) (q : ℕ) → IsIn a (blocks n k) → has (outside_of n f a) q ≡ (is_good n (asked_of a q) && not (has (closure (full n) f a) q))
outside-good n k f a q here =
    let x = blocks-in n k a here in
    let inside = interior f (minus (full n) a) in
    cases (has (full n) q) (has (minus (full n) a) q) (has inside q) (λ h. minus-within (full n) a q h) (λ h. interior-within f (minus (full n) a) q h)
    ∙ ap₂ (λ u v. u && not v) (good_items n a q x.within x.some) (sym (has-minus (full n) inside q))
  where
    cases : (w o i : Bool) → (o ≡ true → w ≡ true) → (i ≡ true → o ≡ true) → i ≡ (o && not (w && not i))
    cases true true true h k = refl
    cases true true false h k = refl
    cases w false true h k = absurd (true≢false (sym (k refl)))
    cases w false false h k = refl
    cases false true i h k = absurd (true≢false (sym (h refl)))

-- ---- the first that passes, from a query on

-- an item of those that are not below that of the query is none, where they have none
not_left : (n : ℕ) (p : Query → Bool) (r c : Query) (those : Items) → ArePassing n p r.a those → c.a ≡ r.a → IsGood n c → p c ≡ true → has (minus those (full r.q)) c.q ≡ false → c.q < r.q
not_left n p r c those opens same good h none =
    let there : has those c.q ≡ true = opens c.q ∙ ap (λ b. is_good n (asked_of b c.q) && p (asked_of b c.q)) (sym same) ∙ and_from (is_good n c) (p c) (good-to n c good) h in
    ltb-true c.q r.q (true_from_ne_false (ltb c.q r.q) (λ e. true≢false (sym (out-from those (full r.q) c.q there (has-full r.q c.q ∙ e)) ∙ none)))

-- the first of those of its set that are not below its item
pub first-from : (n k : ℕ) (p : Query → Bool) (r : Query) (those : Items) (q : ℕ) → IsIn r (queries n k) → ArePassing n p r.a those → least (minus those (full r.q)) ≡ Some q
    → find (λ s. not (query_before s r) && p s) (queries n k) ≡ Some (asked_of r.a q)
first-from n k p r those q here opens e =
    let d = queries-in n k r here in
    let y = least-cases (minus those (full r.q)) q e in
    let o = out-parts those (full r.q) q y.0 in
    let g = and_parts (is_good n (asked_of r.a q)) (p (asked_of r.a q)) (sym (opens q) ∙ o.0) in
    let large : r.q ≤ q = ltb-false q r.q (sym (has-full r.q q) ∙ o.1) in
    let late : query_before (asked_of r.a q) r ≡ false = false_from_ne_true (query_before (asked_of r.a q) r) (λ b. elim (query_before-cases (asked_of r.a q) r b) [
      | inl z ↦ never_before r.a r.a refl z
      | inr z ↦ let less = z.1 in omega arith
    ]) in
    find-first query_before (λ s. not (query_before s r) && p s) (queries n k) (asked_of r.a q) (sorted-queries n k)
    (in-queries n k (asked_of r.a q) (good-from n (asked_of r.a q) g.0) (blocks-in n k r.a d.1).few)
    (and_from (not (query_before (asked_of r.a q) r)) (p (asked_of r.a q)) (not_from_false (query_before (asked_of r.a q) r) late) g.1)
    (λ c in_queries b. false_from_ne_true (not (query_before c r) && p c) (λ h.
    let x = and_parts (not (query_before c r)) (p c) h in
    let after = not-true (query_before c r) x.0 in
    elim (query_before-cases c (asked_of r.a q) b) [
      | inl z ↦ true≢false (sym (before-by_set c r z) ∙ after)
      | inr z ↦ true≢false (sym (before-by_item c r z.0 (not_left n p r c those opens z.0 (queries-in n k c in_queries).0 x.1 (y.1 c.q z.1))) ∙ after)
    ]))

-- where its set has none, the search goes on behind the set
pub later-from : (n k : ℕ) (p : Query → Bool) (r : Query) (those : Items) → IsIn r (queries n k) → ArePassing n p r.a those → least (minus those (full r.q)) ≡ None
    → find (λ s. block_before r.a s.a && p s) (queries n k) ≡ find (λ s. not (query_before s r) && p s) (queries n k)
later-from n k p r those here opens e = find-same (λ s. block_before r.a s.a && p s) (λ s. not (query_before s r) && p s) (queries n k) (λ c in_queries.
    let d = queries-in n k c in_queries in
    let below = λ (same : c.a ≡ r.a) (h : p c ≡ true). not_left n p r c those opens same d.0 h (least-none_left (minus those (full r.q)) c.q e) in
    same_truth (block_before r.a c.a && p c) (not (query_before c r) && p c)
    (λ h.
    let x = and_parts (block_before r.a c.a) (p c) h in
    and_from (not (query_before c r)) (p c) (not_from_false (query_before c r) (query_before-asymmetric r c (before-by_set r c x.0))) x.1)
    (λ h.
    let x = and_parts (not (query_before c r)) (p c) h in
    elim (sorted-cases query_before (queries n k) r c (sorted-queries n k) here in_queries) [
      | inl z ↦ let less = below (ap (λ s. s.a) (sym z)) x.1 in let same : r.q ≡ c.q = ap (λ s. s.q) z in absurd (omega arith)
      | inr z ↦ elim z [
        | inl m ↦ elim (query_before-cases r c m) [
          | inl y ↦ and_from (block_before r.a c.a) (p c) y x.1
          | inr y ↦ let less = below (sym y.0) x.1 in let more = y.1 in absurd (omega arith)
        ]
        | inr m ↦ absurd (true≢false (sym m ∙ not-true (query_before c r) x.0))
      ]
    ]))

-- ---- places

pub some_place : {X : Type 0} (p : X → Bool) (xs : List X) → (i : ℕ) × (find p xs ≡ slice_get xs i)
some_place p [] = (0, refl)
some_place p (x ∷ xs) = elim (p x) as (λ b. (i : ℕ) × (cond b (Some x) (find p xs) ≡ slice_get (x ∷ xs) i)) [
  | true ↦ (zero, refl)
  | false ↦ let later = some_place p xs in (suc later.0, later.1)
]

-- ---- what is open

pub found_open : (i : Interview) (b : BlockRange) (n : ℕ) (f : List Items) (ss : List StandingNo) (r : Query) → IsSound i → i.count ≡ b.item_count → i.block ≡ b.largest → n ≡ b.item_count
    → f ≡ compatible_sets i → ss ≡ map (standing n (compatible_sets i)) (nos i.answers)
    → find (λ s. not (query_before s r) && is_open_by n f ss s) (block_queries b) ≡ find (λ s. not (query_before s r) && is_open (spaces_of i) s) (queries i.count i.block)
found_open i b n f ss r sound count block items family kept =
    let same : is_open_by n f ss ≡ is_open_by n (compatible_sets i) (map (standing n (compatible_sets i)) (nos i.answers)) = ap₂ (is_open_by n) family kept in
    ap (λ o. find (λ s. not (query_before s r) && o s) (block_queries b)) same
    ∙ find-same (λ s. not (query_before s r) && is_open_by n (compatible_sets i) (map (standing n (compatible_sets i)) (nos i.answers)) s) (λ s. not (query_before s r) && is_open (spaces_of i) s) (block_queries b)
    (λ c in_queries.
    let good = good-to b.item_count c (queries-in b.item_count b.largest c in_queries).0 in
    ap (λ o. not (query_before c r) && o) (open-by i n c sound (count ∙ sym items) (ap (λ m. is_good m c) items ∙ good)))
    ∙ ap₂ (λ m k. find (λ s. not (query_before s r) && is_open (spaces_of i) s) (queries m k)) (sym count) (sym block)
