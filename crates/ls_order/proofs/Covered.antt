-- The covers of a partial order, whose relation is the order.
use Rattle.std.proofs.Common.{ℕ, zero, suc, ◌+◌, ◌<◌, ◌≤◌, ◌≡◌, inl, inr, Bool, true, false}
use Rattle.std.proofs.Common.{cond, not, ◌&&◌, ◌||◌, eqb, ltb, leb, List, [], ◌∷◌, ◌++◌, map}
use Rattle.std.proofs.Common.{filter, refl, sym, ap, ap₂, ◌∙◌, subst, arith}
use Rattle.std.proofs.Common.{true≢false, eq-eqb, ne_eqb, ltb-true, lt-ltb}
use Rattle.std.specs.List.{list_any, flat_map}
use Rattle.std.proofs.lemmas.Bool.{cases_Bool, cases_eq, and_parts, and_from}
use Rattle.std.proofs.lemmas.Bool.{not-true}
use Rattle.std.proofs.lemmas.Bool.Decides.{nat_tests}
use Rattle.ls_set.specs.ItemSet.{Items, has, empty, without, meet, len}
use Rattle.ls_set.specs.ItemSet.{is_same, numbers_from}
use Rattle.ls_set.proofs.Sets.{members, has-empty}
use Rattle.ls_set.proofs.Sets.{same_within, both_ways, Decides-is_same}
use Rattle.ls_set.proofs.Sizes.{len-less}
use Rattle.ls_lists.proofs.Every.{some_of}
use Rattle.ls_laws.proofs.Counts.{some_item}
use Rattle.std.proofs.Math.Bool.{and-true, and-false, or_assoc}
use Rattle.ls_origins.specs.Relations.{below_of, relation}
use Rattle.ls_origins.specs.Relations.{is_between, is_cover, covers}
use Rattle.ls_order.specs.Orders.{IsPreorder, IsAntisymmetric, IsOrder, has_pair, ArePairs}
use Rattle.ls_order.specs.Orders.{has_no_cycle, AreAbove}
use Rattle.ls_order.proofs.Reached.{relation-length, relation-reflexive, relation-holds}
use Rattle.ls_order.proofs.Reached.{relation-preorder, relation-least, same-rows, order-acyclic}
use Rattle.ls_origins.proofs.ItemLists.{among-numbers}
use Rattle.ls_order.proofs.Related.{above-small, below-small}

any-append : (p : ℕ × ℕ → Bool) (xs ys : List (ℕ × ℕ)) → list_any p (xs ++ ys)
    ≡ (list_any p xs || list_any p ys)
any-append p [] ys = refl
any-append p (x ∷ xs) ys =
    ap (λ b. p x || b) (any-append p xs ys) ∙ sym (or_assoc (p x) (list_any p xs) (list_any p ys))

row-pair : (r low high : ℕ) (qs : List ℕ) → has_pair (map (λ q. (r, q)) qs) low high
    ≡ (eqb r low && list_any (λ q. eqb q high) qs)
row-pair r low high [] = sym (and-false (eqb r low))
row-pair r low high (q ∷ qs) =
    ap (λ b. eqb r low && eqb q high || b) (row-pair r low high qs) ∙ spread (eqb r low)
    (eqb q high) (list_any (λ q. eqb q high) qs)
  where
    spread : (a b c : Bool) → (a && b || a && c) ≡ (a && (b || c))
    spread true b c = refl
    spread false b c = refl

rows-pair : (row : ℕ → List ℕ) (low high : ℕ) (rs : List ℕ)
    → has_pair (flat_map (λ r. map (λ q. (r, q)) (row r)) rs) low high
    ≡ list_any (λ r. eqb r low && list_any (λ q. eqb q high) (row r)) rs
rows-pair row low high [] = refl
rows-pair row low high (r ∷ rs) =
    any-append (λ p. eqb p.0 low && eqb p.1 high) (map (λ q. (r, q)) (row r))
    (flat_map (λ r. map (λ q. (r, q)) (row r)) rs)
    ∙ ap₂ (λ a b. a || b) (row-pair r low high (row r)) (rows-pair row low high rs)

the-number : (p : ℕ → Bool) (low i m : ℕ) → list_any (λ r. eqb r low && p r) (numbers_from i m)
    ≡ (leb i low && ltb low (i + m) && p low)
the-number p low i zero = grind (arith, nat_tests)
the-number p low i (suc m) = elim (cases_eq i low) [
  | inl e ↦ let a = the-number p low (suc i) m in let b = ap p e in grind (arith, nat_tests)
  | inr d ↦ let a = the-number p low (suc i) m in grind (arith, nat_tests)
]

filtered : (p : ℕ → Bool) (high : ℕ) (qs : List ℕ) → list_any (λ q. eqb q high) (filter p qs)
    ≡ list_any (λ q. eqb q high && p q) qs
filtered p high [] = refl
filtered p high (q ∷ qs) =
    elim
    (p q)
    as (λ b. list_any (λ q. eqb q high) (cond b (q ∷ filter p qs) (filter p qs))
    ≡ (eqb q high && b || list_any (λ q. eqb q high && p q) qs)) [
      | true ↦ ap₂ (λ a b. a || b) (sym (and-true (eqb q high))) (filtered p high qs)
      | false ↦ filtered p high qs ∙ ap (λ b. b || list_any (λ q. eqb q high && p q) qs)
          (sym (and-false (eqb q high)))
    ]

pub covers-are : (n : ℕ) (below : List Items) (low high : ℕ) → has_pair (covers n below) low high
    ≡ (ltb low n && (ltb high n && is_cover n below low high))
unfolding covers
covers-are n below low high =
    rows-pair (λ r. filter (is_cover n below r) (numbers_from 0 n)) low high (numbers_from 0 n)
    ∙ the-number (λ r. list_any (λ q. eqb q high) (filter (is_cover n below r) (numbers_from 0 n)))
    low 0 n
    ∙ ap₂ (λ a b. a && b) (from_zero low n)
    (filtered (is_cover n below low) high (numbers_from 0 n) ∙ the-number (is_cover n below low)
    high 0 n ∙ ap (λ a. a && is_cover n below low high) (from_zero high n))
  where
    from_zero : (x n : ℕ) → (leb 0 x && ltb x (0 + n)) ≡ ltb x n
    from_zero x n = grind (arith, nat_tests)

not-same : (r q : ℕ) → not (eqb r q) ≡ true → ¬ (r ≡ q)
not-same r q h e = true≢false (sym (eq-eqb r q e) ∙ not-true (eqb r q) h)

record IsBetween (below : List Items) (r q x : ℕ) : Type 0 where
  pub under : has (below_of below q) x ≡ true
  pub over : has (below_of below x) r ≡ true
  pub not_low : ¬ (x ≡ r)
  pub not_high : ¬ (x ≡ q)

between-from : (n : ℕ) (below : List Items) (r q : ℕ)
    → list_any (is_between below r q) (numbers_from 0 n) ≡ true → (x : ℕ) × IsBetween below r q x
between-from n below r q h =
    let s = some_of (is_between below r q) (numbers_from 0 n) h in
    let x = s.0 in
    let a =
    and_parts (has (below_of below q) x)
    (has (below_of below x) r && (not (eqb x r) && not (eqb x q))) s.1 in
    let b = and_parts (has (below_of below x) r) (not (eqb x r) && not (eqb x q)) a.1 in
    let c = and_parts (not (eqb x r)) (not (eqb x q)) b.1 in
    (x, record { under = a.0; over = b.0; not_low = not-same x r c.0; not_high = not-same x q c.1 })

-- what is below has fewer items below it
fewer-below : (n : ℕ) (below : List Items) (q r : ℕ) → IsOrder n below → has (below_of below q) r
    ≡ true → ¬ (r ≡ q) → len (below_of below r) < len (below_of below q)
fewer-below n below q r o h other =
    let p = o.preorder in
    len-less (below_of below r) (below_of below q) q (p.transitive q r h)
    (elim (cases_Bool (has (below_of below r) q)) [
      | inl a ↦ absurd (other (sym (o.antisymmetric q r h a)))
      | inr a ↦ a
    ])
    (p.reflexive q (above-small n below q r p h))

cover-in : (n : ℕ) (below : List Items) (low high : ℕ) → has_pair (covers n below) low high ≡ true
    → (low < n) × (high < n) × (is_cover n below low high ≡ true)
cover-in n below low high h =
    let a =
    and_parts (ltb low n) (ltb high n && is_cover n below low high)
    (sym (covers-are n below low high) ∙ h) in
    let b = and_parts (ltb high n) (is_cover n below low high) a.1 in
    (ltb-true low n a.0, ltb-true high n b.0, b.1)

pub covers-pairs : (n : ℕ) (below : List Items) → ArePairs n (covers n below)
covers-pairs n below low high h = let a = cover-in n below low high h in (a.0, a.1)

cover-below : (n : ℕ) (below : List Items) (low high : ℕ) → has_pair (covers n below) low high
    ≡ true → has (below_of below high) low ≡ true
cover-below n below low high h =
    (and_parts (has (below_of below high) low)
    (not (eqb low high) && not (list_any (is_between below low high) (numbers_from 0 n)))
    (cover-in n below low high h).2).0

-- the covers lead down from q to r
abbrev Lead : ℕ → List Items → ℕ → ℕ → Type 0
Lead n below q r = has (below_of (relation n (covers n below)) q) r ≡ true

-- by one cover, or by way of an item between, to and from which the difference in the number of
-- items below is less
covers-step : (n : ℕ) (below : List Items) (m q r : ℕ) → IsOrder n below
    → ((q r : ℕ) → has (below_of below q) r ≡ true
    → len (below_of below q) ≤ m + len (below_of below r) → Lead n below q r)
    → has (below_of below q) r ≡ true → ¬ (r ≡ q)
    → len (below_of below q) ≤ suc m + len (below_of below r) → Lead n below q r
covers-step n below m q r o lead h other few =
    let p = o.preorder in
    let pairs = covers n below in
    let small = covers-pairs n below in
    let q_small = above-small n below q r p h in
    elim (cases_Bool (list_any (is_between below r q) (numbers_from 0 n))) [
      | inr none ↦
          let cover : is_cover n below r q ≡ true =
          and_from (has (below_of below q) r)
          (not (eqb r q) && not (list_any (is_between below r q) (numbers_from 0 n))) h
          (and_from (not (eqb r q)) (not (list_any (is_between below r q) (numbers_from 0 n)))
          (ap not (ne_eqb r q other)) (ap not none)) in
          relation-holds n pairs r q small
          (covers-are n below r q ∙ and_from (ltb r n) (ltb q n && is_cover n below r q)
          (lt-ltb r n (below-small n below q r p h))
          (and_from (ltb q n) (is_cover n below r q) (lt-ltb q n q_small) cover))
      | inl some ↦
          let b = between-from n below r q some in
          let x = b.0 in
          let low : len (below_of below r) < len (below_of below x) =
          fewer-below n below x r o b.1.over (λ e. b.1.not_low (sym e)) in
          let high : len (below_of below x) < len (below_of below q) =
          fewer-below n below q x o b.1.under b.1.not_high in
          (relation-preorder n pairs small).transitive q x (lead q x b.1.under (omega arith)) r
          (lead x r b.1.over (omega arith))
    ]

covers-lead : (n : ℕ) (below : List Items) (m q r : ℕ) → IsOrder n below → has (below_of below q) r
    ≡ true → len (below_of below q) ≤ m + len (below_of below r) → Lead n below q r
covers-lead n below zero q r o h few = elim (cases_eq r q) [
  | inl e ↦ ap (has (below_of (relation n (covers n below)) q)) e ∙ relation-reflexive n
      (covers n below) q (above-small n below q r o.preorder h)
  | inr other ↦ let less = fewer-below n below q r o h other in absurd (omega arith)
]
covers-lead n below (suc m) q r o h few = elim (cases_eq r q) [
  | inl e ↦ ap (has (below_of (relation n (covers n below)) q)) e ∙ relation-reflexive n
      (covers n below) q (above-small n below q r o.preorder h)
  | inr other ↦ covers-step n below m q r o (λ x y. covers-lead n below m x y o) h other few
]

-- the covers of a partial order have it as their relation
pub covers-generate : (n : ℕ) (below : List Items) → IsOrder n below → relation n (covers n below)
    ≡ below
covers-generate n below o =
    let p = o.preorder in
    same-rows (relation n (covers n below)) below
    (relation-length n (covers n below) ∙ sym p.each_item) (λ q.
    same_within (below_of (relation n (covers n below)) q) (below_of below q)
    (relation-least n (covers n below) below q p (cover-below n below))
    (λ r h. covers-lead n below (len (below_of below q)) q r o h (omega arith)))

-- the covers of a partial order have no cycle
pub covers-acyclic : (n : ℕ) (below : List Items) → IsOrder n below
    → has_no_cycle n (covers n below) ≡ true
covers-acyclic n below o = order-acyclic n (covers n below) (covers-pairs n below)
    (subst IsAntisymmetric (sym (covers-generate n below o)) o.antisymmetric)
    (λ q. elim (cases_Bool (has_pair (covers n below) q q)) [
      | inr a ↦ a
      | inl a ↦
          let c = (cover-in n below q q a).2 in
          let d =
          and_parts (has (below_of below q) q)
          (not (eqb q q) && not (list_any (is_between below q q) (numbers_from 0 n))) c in
          absurd
          (not-same
          q q
          (and_parts (not (eqb q q)) (not (list_any (is_between below q q) (numbers_from 0 n)))
          d.1).0 refl)
    ])

-- an item between two others is in one meet
pub cover-by_sets : (n : ℕ) (below : List Items) (r q : ℕ) (above : Items) → IsPreorder n below
    → AreAbove n below r above
    → is_cover n below r q
    ≡ (has (below_of below q) r
    && (not (eqb r q) && is_same (without (without (meet (below_of below q) above) r) q) empty))
cover-by_sets n below r q above p up =
    let rest = without (without (meet (below_of below q) above) r) q in
    ap (λ b. has (below_of below q) r && (not (eqb r q) && b))
    (both_ways (not (list_any (is_between below r q) (numbers_from 0 n))) (is_same rest empty)
    (λ none. elim (some_item rest) [
      | inl e ↦ (Decides-is_same rest empty).1 e
      | inr s ↦
          let x = s.0 in
          let h = s.1 in
          let under : has (below_of below q) x ≡ true = grind (arith, members, nat_tests) in
          let over : has above x ≡ true = grind (arith, members, nat_tests) in
          let not_low : eqb x r ≡ false = grind (arith, members, nat_tests) in
          let not_high : eqb x q ≡ false = grind (arith, members, nat_tests) in
          let l = below-small n below q x p under in
          let c : is_between below r q x ≡ true =
          and_from (has (below_of below q) x)
          (has (below_of below x) r && (not (eqb x r) && not (eqb x q))) under
          (and_from (has (below_of below x) r) (not (eqb x r) && not (eqb x q))
          (sym (up x l) ∙ over)
          (and_from (not (eqb x r)) (not (eqb x q)) (ap not not_low) (ap not not_high))) in
          absurd
          (true≢false
          (sym (among-numbers (is_between below r q) n x l c) ∙ not-true
          (list_any (is_between below r q) (numbers_from 0 n)) none))
    ])
    (λ e. elim (cases_Bool (list_any (is_between below r q) (numbers_from 0 n))) [
      | inr a ↦ ap not a
      | inl a ↦
          let b = between-from n below r q a in
          let x = b.0 in
          let under = b.1.under in
          let over : has above x ≡ true = up x (below-small n below q x p under) ∙ b.1.over in
          let low = ne_eqb x r b.1.not_low in
          let high = ne_eqb x q b.1.not_high in
          let none : has rest x ≡ false =
          ap (λ s. has s x) ((Decides-is_same rest empty).0 e) ∙ has-empty x in
          let some : has rest x ≡ true = grind (arith, members, nat_tests) in
          absurd (true≢false (sym some ∙ none))
    ]))
