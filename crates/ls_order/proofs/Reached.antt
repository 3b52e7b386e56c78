-- The relation of a list of pairs: the least preorder that has them.
use Rattle.std.proofs.Common.{ℕ, zero, suc, ◌+◌, ◌<◌, ◌≤◌, ◌≡◌, ◌⊎◌, inl, inr, true, false}
use Rattle.std.proofs.Common.{cond, not, ◌&&◌, eqb, List, [], ◌∷◌, map}
use Rattle.std.proofs.Common.{length, get_or, refl, sym, ap, ap₂, ◌∙◌, subst, arith}
use Rattle.std.proofs.Common.{true≢false, eq-eqb, eqb-true, lt-ltb}
use Rattle.std.specs.List.{list_any}
use Rattle.std.proofs.lemmas.Bool.{cases_Bool, cases_lt, and_parts, and_from, or_cases}
use Rattle.std.proofs.lemmas.Bool.{or_left, or_right, not-true}
use Rattle.std.proofs.lemmas.Bool.Decides.{nat_tests}
use Rattle.ls_set.specs.ItemSet.{Items, has, empty, full, with, single, union, len}
use Rattle.ls_set.specs.ItemSet.{items, numbers_from, IsWithin}
use Rattle.ls_set.proofs.Sets.{members, has-empty, has-full, has-single, has-union, has-with}
use Rattle.ls_set.proofs.Sets.{same_set, same_within, both_ways}
use Rattle.ls_set.proofs.Sets.{union-left, union-right, union-within}
use Rattle.ls_set.proofs.Sizes.{len-less}
use Rattle.ls_laws.proofs.Counts.{some_missing, as_many, len-empty, len-parts}
use Rattle.ls_laws.proofs.Counts.{len-single}
use Rattle.ls_origins.specs.Relations.{below_of, lows, reached, relation}
use Rattle.ls_origins.specs.Relations.{strictly_below}
use Rattle.ls_order.specs.Orders.{IsPreorder, IsAntisymmetric, IsOrder, has_pair, ArePairs}
use Rattle.ls_order.specs.Orders.{has_no_cycle}
use Rattle.ls_origins.proofs.Numbered.{every-number, number-every}
use Rattle.ls_origins.proofs.ItemLists.{from-items, among-items}

-- ---- lower items

pub lows-from : (pairs : List (ℕ × ℕ)) (s : Items) (i : ℕ) → has (lows pairs s) i ≡ true → (h : ℕ)
    × (has_pair pairs i h ≡ true) × (has s h ≡ true)
lows-from [] s i a = absurd (true≢false (sym a ∙ has-empty i))
lows-from (p ∷ pairs) s i a =
    elim
    (has s p.1)
    as (λ b. has s p.1 ≡ b → has (cond b (with (lows pairs s) p.0) (lows pairs s)) i ≡ true
    → (h : ℕ) × (has_pair (p ∷ pairs) i h ≡ true) × (has s h ≡ true)) [
      | true
          ↦ λ
          e a.
          elim (or_cases (has (lows pairs s) i) (eqb i p.0)
          (sym (has-with (lows pairs s) p.0 i) ∙ a)) [
            | inl b ↦ let r =
                lows-from
                pairs s i b in
                (r.0, or_right (eqb p.0 i && eqb p.1 r.0) (has_pair pairs i r.0) r.1, r.2)
            | inr
                b ↦ (
                  p.1,
                  or_left (eqb p.0 i && eqb p.1 p.1) (has_pair pairs i p.1)
                      (and_from (eqb p.0 i) (eqb p.1 p.1) (eq-eqb p.0 i (sym (eqb-true i p.0 b)))
                      (eq-eqb p.1 p.1 refl)),
                  e,
                )
          ]
      | false ↦ λ _ a. let r =
          lows-from
          pairs s i a in (r.0, or_right (eqb p.0 i && eqb p.1 r.0) (has_pair pairs i r.0) r.1, r.2)
    ] refl a

pub lows-to : (pairs : List (ℕ × ℕ)) (s : Items) (i h : ℕ) → has_pair pairs i h ≡ true → has s h
    ≡ true → has (lows pairs s) i ≡ true
lows-to [] s i h a b = absurd (true≢false (sym a))
lows-to (p ∷ pairs) s i h a b =
    elim
    (has s p.1)
    as (λ c. has s p.1 ≡ c → has (cond c (with (lows pairs s) p.0) (lows pairs s)) i ≡ true) [
      | true ↦ λ e. has-with (lows pairs s) p.0 i ∙ elim
          (or_cases (eqb p.0 i && eqb p.1 h) (has_pair pairs i h) a) [
            | inl d ↦ or_right (has (lows pairs s) i) (eqb i p.0)
                (eq-eqb i p.0 (sym (eqb-true p.0 i (and_parts (eqb p.0 i) (eqb p.1 h) d).0)))
            | inr d ↦ or_left (has (lows pairs s) i) (eqb i p.0) (lows-to pairs s i h d b)
          ]
      | false ↦ λ e. elim (or_cases (eqb p.0 i && eqb p.1 h) (has_pair pairs i h) a) [
        | inl
            d ↦
            absurd
            (true≢false
            (sym b ∙ ap (has s) (sym (eqb-true p.1 h (and_parts (eqb p.0 i) (eqb p.1 h) d).1)) ∙ e))
        | inr d ↦ lows-to pairs s i h d b
      ]
    ] refl

-- ---- what pairs lead down to

reached-keeps : (pairs : List (ℕ × ℕ)) (m : ℕ) (s : Items) → IsWithin s (reached pairs m s)
reached-keeps pairs zero s i h = h
reached-keeps pairs (suc m) s i h =
    reached-keeps pairs m (union s (lows pairs s)) i (union-left s (lows pairs s) i h)

-- what holds of each item of s, and of the lower item of a pair where it holds of the higher one,
-- holds of each that is reached
reached-all : (P : ℕ → Type 0) (pairs : List (ℕ × ℕ)) (m : ℕ) (s : Items)
    → ((i : ℕ) → has s i ≡ true → P i)
    → ((low high : ℕ) → has_pair pairs low high ≡ true → P high → P low) → (i : ℕ)
    → has (reached pairs m s) i ≡ true → P i
reached-all P pairs zero s first step i h = first i h
reached-all P pairs (suc m) s first step i h =
    reached-all P pairs m (union s (lows pairs s))
    (λ j
    a. elim (or_cases (has s j) (has (lows pairs s) j) (sym (has-union s (lows pairs s) j) ∙ a)) [
      | inl b ↦ first j b
      | inr b ↦ let r = lows-from pairs s j b in step j r.0 r.1 (first r.0 r.2)
    ]) step i h

len-full : (n : ℕ) → len (full n) ≡ n
len-full zero =
    ap len (same_set (full 0) empty (λ j. grind (arith, members, nat_tests))) ∙ len-empty
len-full (suc n) =
    let e : len (full (suc n)) ≡ len (full n) + len (single n) =
    len-parts (full n) (single n) (full (suc n)) (λ j. grind (arith, members, nat_tests))
    (λ j. grind (arith, members, nat_tests)) in
    omega (arith, e, len-full n, len-single n)

pub lows-small : (n : ℕ) (pairs : List (ℕ × ℕ)) (s : Items) → ArePairs n pairs
    → IsWithin (lows pairs s) (full n)
lows-small n pairs s small i h = let r =
    lows-from pairs s i h in has-full n i ∙ lt-ltb i n (small i r.0 r.1).0

-- n steps lead no further
reached-closed : (n : ℕ) (pairs : List (ℕ × ℕ)) (m : ℕ) (s : Items) → ArePairs n pairs
    → IsWithin s (full n) → n ≤ m + len s
    → IsWithin (lows pairs (reached pairs m s)) (reached pairs m s)
reached-closed n pairs zero s pairs_small small many =
    let l : len (full n) ≤ len s = (let e = len-full n in omega arith) in
    subst (λ t. IsWithin (lows pairs t) t) (sym (as_many s (full n) small l))
    (lows-small n pairs (full n) pairs_small)
reached-closed n pairs (suc m) s pairs_small small many =
    let t = union s (lows pairs s) in
    elim (some_missing s t) [
      | inl w ↦
          let e : t ≡ s = same_within t s w (union-left s (lows pairs s)) in
          let closed : IsWithin (lows pairs s) s = λ i h. w i (union-right s (lows pairs s) i h) in
          let stays : reached pairs (suc m) s ≡ s = same_within (reached pairs (suc m) s) s
          (reached-all (λ i. has s i ≡ true) pairs (suc m) s (λ i h. h)
          (λ low high p h. closed low (lows-to pairs s low high p h)))
          (reached-keeps pairs (suc m) s) in
          subst (λ u. IsWithin (lows pairs u) u) (sym stays) closed
      | inr r ↦
          let more : len s < len t = len-less s t r.0 (union-left s (lows pairs s)) r.2 r.1 in
          reached-closed n pairs m t pairs_small
          (union-within s (lows pairs s) (full n) small (lows-small n pairs s pairs_small))
          (omega arith)
    ]

-- ---- the relation

rows-at : (row : ℕ → Items) (i m q : ℕ) → q < m → get_or (map row (numbers_from i m)) q empty
    ≡ row (i + q)
rows-at row i zero q l = absurd (omega arith)
rows-at row i (suc m) zero l = ap row (omega arith)
rows-at row i (suc m) (suc q) l =
    rows-at row (suc i) m q (omega arith) ∙ ap row
    (let e : suc i + q ≡ i + suc q = omega arith in e)

rows-past : (row : ℕ → Items) (i m q : ℕ) → m ≤ q → get_or (map row (numbers_from i m)) q empty
    ≡ empty
rows-past row i zero q l = refl
rows-past row i (suc m) zero l = absurd (omega arith)
rows-past row i (suc m) (suc q) l = rows-past row (suc i) m q (omega arith)

rows-length : (row : ℕ → Items) (i m : ℕ) → length (map row (numbers_from i m)) ≡ m
rows-length row i zero = refl
rows-length row i (suc m) = ap suc (rows-length row (suc i) m)

relation-at : (n : ℕ) (pairs : List (ℕ × ℕ)) (q : ℕ) → q < n → below_of (relation n pairs) q
    ≡ reached pairs n (single q)
unfolding relation
relation-at n pairs q l =
    rows-at (λ q. reached pairs n (single q)) 0 n q l ∙ ap (λ q. reached pairs n (single q))
    (let e : 0 + q ≡ q = omega arith in e)

pub relation-past : (n : ℕ) (pairs : List (ℕ × ℕ)) (q : ℕ) → n ≤ q → below_of (relation n pairs) q
    ≡ empty
unfolding relation
relation-past n pairs q l = rows-past (λ q. reached pairs n (single q)) 0 n q l

pub relation-length : (n : ℕ) (pairs : List (ℕ × ℕ)) → length (relation n pairs) ≡ n
unfolding relation
relation-length n pairs = rows-length (λ q. reached pairs n (single q)) 0 n

pub relation-above : (n : ℕ) (pairs : List (ℕ × ℕ)) (q r : ℕ)
    → has (below_of (relation n pairs) q) r
    ≡ true → q < n
relation-above n pairs q r h = elim (cases_lt q n) [
  | inl l ↦ l
  | inr
      l ↦ absurd (true≢false (sym h ∙ ap (λ s. has s r) (relation-past n pairs q l) ∙ has-empty r))
]

one-item : (q : ℕ) → has (single q) q ≡ true
one-item q = has-single q q ∙ eq-eqb q q refl

the-item : (q i : ℕ) → has (single q) i ≡ true → i ≡ q
the-item q i h = eqb-true i q (sym (has-single q i) ∙ h)

single-small : (n q : ℕ) → q < n → IsWithin (single q) (full n)
single-small n q l i h = has-full n i ∙ lt-ltb i n (let e = the-item q i h in omega arith)

-- what holds of q, and goes down along pairs, holds of all below q
pub relation-all : (P : ℕ → Type 0) (n : ℕ) (pairs : List (ℕ × ℕ)) (q : ℕ) → P q
    → ((low high : ℕ) → has_pair pairs low high ≡ true → P high → P low) → (i : ℕ)
    → has (below_of (relation n pairs) q) i ≡ true → P i
relation-all P n pairs q first step i h =
    let l = relation-above n pairs q i h in
    reached-all P pairs n (single q) (λ j a. subst P (sym (the-item q j a)) first) step i
    (ap (λ s. has s i) (sym (relation-at n pairs q l)) ∙ h)

pub relation-reflexive : (n : ℕ) (pairs : List (ℕ × ℕ)) (q : ℕ) → q < n
    → has (below_of (relation n pairs) q) q ≡ true
relation-reflexive n pairs q l =
    ap (λ s. has s q) (relation-at n pairs q l) ∙ reached-keeps pairs n (single q) q (one-item q)

pub relation-closed : (n : ℕ) (pairs : List (ℕ × ℕ)) (q low high : ℕ) → ArePairs n pairs
    → has_pair pairs low high ≡ true → has (below_of (relation n pairs) q) high ≡ true
    → has (below_of (relation n pairs) q) low ≡ true
relation-closed n pairs q low high small p h =
    let l = relation-above n pairs q high h in
    let e = relation-at n pairs q l in
    ap (λ s. has s low) e ∙ reached-closed n pairs n (single q) small (single-small n q l)
    (omega arith) low
    (lows-to pairs (reached pairs n (single q)) low high p (ap (λ s. has s high) (sym e) ∙ h))

pub relation-preorder : (n : ℕ) (pairs : List (ℕ × ℕ)) → ArePairs n pairs
    → IsPreorder n (relation n pairs)
relation-preorder n pairs small = record {
  each_item = relation-length n pairs;
  small = λ q i h.
      let l = relation-above n pairs q i h in
      relation-all (λ i. has (full n) i ≡ true) n pairs q (has-full n q ∙ lt-ltb q n l)
      (λ low high p _. has-full n low ∙ lt-ltb low n (small low high p).0) i h;
  reflexive = relation-reflexive n pairs;
  transitive =
      λ q r h. relation-all (λ i. has (below_of (relation n pairs) q) i ≡ true) n pairs r h
      (λ low high p a. relation-closed n pairs q low high small p a);
}

pub relation-holds : (n : ℕ) (pairs : List (ℕ × ℕ)) (low high : ℕ) → ArePairs n pairs
    → has_pair pairs low high ≡ true → has (below_of (relation n pairs) high) low ≡ true
relation-holds n pairs low high small p =
    relation-closed n pairs high low high small p
    (relation-reflexive n pairs high (small low high p).1)

-- each preorder that has the pairs has what the relation has
pub relation-least : (n : ℕ) (pairs : List (ℕ × ℕ)) (b : List Items) (q : ℕ) → IsPreorder n b
    → ((low high : ℕ) → has_pair pairs low high ≡ true → has (below_of b high) low ≡ true)
    → IsWithin (below_of (relation n pairs) q) (below_of b q)
relation-least n pairs b q p holds i h =
    relation-all (λ i. has (below_of b q) i ≡ true) n pairs q
    (p.reflexive q (relation-above n pairs q i h))
    (λ low high a c. p.transitive q high c low (holds low high a)) i h

-- ---- at least one pair down

pub strict-below : (n : ℕ) (pairs : List (ℕ × ℕ)) (q i : ℕ) → ArePairs n pairs
    → has (strictly_below n pairs q) i ≡ true → has (below_of (relation n pairs) q) i ≡ true
strict-below n pairs q i small h = let r =
    lows-from pairs (below_of (relation n pairs) q) i h in relation-closed n pairs q i r.0 small r.1
    r.2

pub strict-holds : (n : ℕ) (pairs : List (ℕ × ℕ)) (low high : ℕ) → ArePairs n pairs
    → has_pair pairs low high ≡ true → has (strictly_below n pairs high) low ≡ true
strict-holds n pairs low high small p =
    lows-to pairs (below_of (relation n pairs) high) low high p
    (relation-reflexive n pairs high (small low high p).1)

pub strict-transitive : (n : ℕ) (pairs : List (ℕ × ℕ)) (q r : ℕ) → ArePairs n pairs
    → has (strictly_below n pairs q) r ≡ true
    → IsWithin (strictly_below n pairs r) (strictly_below n pairs q)
strict-transitive n pairs q r small h i a =
    let x = lows-from pairs (below_of (relation n pairs) r) i a in
    lows-to pairs (below_of (relation n pairs) q) i x.0 x.1
    ((relation-preorder n pairs small).transitive q r (strict-below n pairs q r small h) x.0
    x.2)

-- any transitive relation that has the pairs
pub strict-least : (R : ℕ → ℕ → Type 0) (n : ℕ) (pairs : List (ℕ × ℕ))
    → ((x y z : ℕ) → R x y → R y z → R x z)
    → ((low high : ℕ) → has_pair pairs low high ≡ true → R low high) → (q r : ℕ)
    → has (strictly_below n pairs q) r ≡ true → R r q
strict-least R n pairs transitive holds q r h =
    let x = lows-from pairs (below_of (relation n pairs) q) r h in
    elim (relation-all (λ i. (i ≡ q) ⊎ R i q) n pairs q (inl refl) (λ low high p a. inr (elim a [
      | inl e ↦ subst (R low) e (holds low high p)
      | inr b ↦ transitive low high q (holds low high p) b
    ])) x.0 x.2) [
      | inl e ↦ subst (R r) e (holds r x.0 x.1)
      | inr b ↦ transitive r x.0 q (holds r x.0 x.1) b
    ]

-- below is strictly below, or the item itself
pub strict-or-same : (n : ℕ) (pairs : List (ℕ × ℕ)) (q i : ℕ) → ArePairs n pairs
    → has (below_of (relation n pairs) q) i ≡ true
    → (i ≡ q) ⊎ (has (strictly_below n pairs q) i ≡ true)
strict-or-same n pairs q i small h =
    let below = below_of (relation n pairs) q in
    (relation-all
    (λ i. (has below i ≡ true) × ((i ≡ q) ⊎ (has (strictly_below n pairs q) i ≡ true))) n pairs
    q (relation-reflexive n pairs q (relation-above n pairs q i h), inl refl)
    (λ low
    high
    p a.
    (relation-closed n pairs q low high small p a.0, inr (lows-to pairs below low high p a.0)))
    i h).1

-- what is strictly below is in a pair with an item below
pub strict-pairs : (n : ℕ) (pairs : List (ℕ × ℕ)) (q r : ℕ) → has (strictly_below n pairs q) r
    ≡ list_any (has_pair pairs r) (items (below_of (relation n pairs) q))
strict-pairs n pairs q r =
    let below = below_of (relation n pairs) q in
    both_ways (has (lows pairs below) r) (list_any (has_pair pairs r) (items below))
    (λ h. let x = lows-from pairs below r h in among-items (has_pair pairs r) below x.0 x.2 x.1)
    (λ h. let x = from-items (has_pair pairs r) below h in lows-to pairs below r x.0 x.2 x.1)

-- where no item is strictly below itself, the relation is a partial order
pub acyclic-order : (n : ℕ) (pairs : List (ℕ × ℕ)) → ArePairs n pairs → has_no_cycle n pairs ≡ true
    → IsOrder n (relation n pairs)
acyclic-order n pairs small none = record {
  preorder = relation-preorder n pairs small;
  antisymmetric = λ q r a b. elim (strict-or-same n pairs q r small a) [
    | inl e ↦ sym e
    | inr c ↦ elim (strict-or-same n pairs r q small b) [
      | inl e ↦ e
      | inr d ↦
          let l = relation-above n pairs q r a in
          absurd
          (true≢false
          (sym (strict-transitive n pairs q r small c q d) ∙ not-true
          (has (strictly_below n pairs q) q)
          (every-number (λ q. not (has (strictly_below n pairs q) q)) 0 n q (omega arith)
          (omega arith) none)))
    ]
  ];
}

-- and no item is in a pair with itself; and the other way round
pub acyclic-unpaired : (n : ℕ) (pairs : List (ℕ × ℕ)) (q : ℕ) → ArePairs n pairs
    → has_no_cycle n pairs ≡ true → has_pair pairs q q ≡ false
acyclic-unpaired n pairs q small none = elim (cases_Bool (has_pair pairs q q)) [
  | inr a ↦ a
  | inl a ↦
      let l = (small q q a).0 in
      absurd
      (true≢false
      (sym (strict-holds n pairs q q small a) ∙ not-true (has (strictly_below n pairs q) q)
      (every-number (λ q. not (has (strictly_below n pairs q) q)) 0 n q (omega arith)
      (omega arith) none)))
]

pub order-acyclic : (n : ℕ) (pairs : List (ℕ × ℕ)) → ArePairs n pairs
    → IsAntisymmetric (relation n pairs) → ((q : ℕ) → has_pair pairs q q ≡ false)
    → has_no_cycle n pairs ≡ true
order-acyclic n pairs small anti unpaired =
    number-every (λ q. not (has (strictly_below n pairs q) q)) 0 n
    (λ q _. elim (cases_Bool (has (strictly_below n pairs q) q)) [
      | inr a ↦ ap not a
      | inl a ↦
          let r = lows-from pairs (below_of (relation n pairs) q) q a in
          let e = anti q r.0 r.2 (relation-holds n pairs q r.0 small r.1) in
          absurd (true≢false (sym r.1 ∙ ap (has_pair pairs q) (sym e) ∙ unpaired q))
    ])

-- ---- the relation is told

pub same-rows : (b c : List Items) → length b ≡ length c
    → ((q : ℕ) → below_of b q ≡ below_of c q) → b
    ≡ c
same-rows [] [] e h = refl
same-rows [] (t ∷ c) e h = absurd (omega arith)
same-rows (s ∷ b) [] e h = absurd (omega arith)
same-rows (s ∷ b) (t ∷ c) e h =
    ap₂ (λ x xs. x ∷ xs) (h 0) (same-rows b c (omega arith) (λ q. h (suc q)))

-- so a preorder that has the pairs, and nothing that the relation lacks, is the relation
pub relation-told : (n : ℕ) (pairs : List (ℕ × ℕ)) (b : List Items) → IsPreorder n b
    → ((low high : ℕ) → has_pair pairs low high ≡ true → has (below_of b high) low ≡ true)
    → ((q : ℕ) → IsWithin (below_of b q) (below_of (relation n pairs) q)) → b ≡ relation n pairs
relation-told n pairs b p holds within =
    same-rows b (relation n pairs) (p.each_item ∙ sym (relation-length n pairs))
    (λ q. same_within (below_of b q) (below_of (relation n pairs) q) (within q)
    (relation-least n pairs b q p holds))
