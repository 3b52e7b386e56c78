-- Rows after middle items.
use Rattle.std.proofs.Common.{ℕ, zero, suc, ◌<◌, ◌≤◌, ◌≡◌, ◌⊎◌, inl, inr, Bool, true, false, ◌&&◌}
use Rattle.std.proofs.Common.{◌||◌, cond, List, [], ◌∷◌, map, length, refl, sym, ap, ◌∙◌}
use Rattle.std.proofs.Common.{arith, true≢false}
use Rattle.std.proofs.lemmas.Bool.{cases_eq, cases_lt, and_parts, and_from, or_cases, or_left}
use Rattle.std.proofs.lemmas.Bool.{or_right}
use Rattle.ls_set.specs.ItemSet.{Items, has, empty, union, IsWithin}
use Rattle.ls_set.proofs.Sets.{has-empty, has-union}
use Rattle.ls_origins.specs.Relations.{below_of}
use Rattle.ls_order.specs.Closing.{joined, through, closed}

pub length-through : (m : ℕ) (rows : List Items) → length (through m rows) ≡ length rows
length-through m rows = as_many (joined m (below_of rows m)) rows
  where
    as_many : (f : Items → Items) (rows : List Items) → length (map f rows) ≡ length rows
    as_many f [] = refl
    as_many f (row ∷ rows) = ap suc (as_many f rows)

pub length-closed : (m : ℕ) (rows : List Items) → length (closed m rows) ≡ length rows
length-closed zero rows = refl
length-closed (suc m) rows = length-through m (closed m rows) ∙ length-closed m rows

-- ---- what one middle item adds

has-joined : (m : ℕ) (below row : Items) (i : ℕ) → has (joined m below row) i
    ≡ (has row i || (has row m && has below i))
has-joined m below row i =
    elim
    (has row m)
    as (λ b. has (cond b (union row below) row) i ≡ (has row i || (b && has below i))) [
      | true ↦ has-union row below i
      | false ↦ keep (has row i)
    ]
  where
    keep : (b : Bool) → b ≡ (b || false)
    keep true = refl
    keep false = refl

rows-mapped : (f : Items → Items) (rows : List Items) (q : ℕ) → f empty ≡ empty
    → below_of (map f rows) q ≡ f (below_of rows q)
rows-mapped f [] q e = sym e
rows-mapped f (row ∷ rows) zero e = refl
rows-mapped f (row ∷ rows) (suc q) e = rows-mapped f rows q e

row-through : (m : ℕ) (rows : List Items) (q : ℕ) → below_of (through m rows) q
    ≡ joined m (below_of rows m) (below_of rows q)
row-through m rows q =
    rows-mapped (joined m (below_of rows m)) rows q
    (ap (λ b. cond b (union empty (below_of rows m)) empty) (has-empty m))

has-through : (m : ℕ) (rows : List Items) (q i : ℕ) → has (below_of (through m rows) q) i
    ≡ (has (below_of rows q) i || (has (below_of rows q) m && has (below_of rows m) i))
has-through m rows q i =
    ap (λ s. has s i) (row-through m rows q)
    ∙ has-joined m (below_of rows m) (below_of rows q) i

-- i was in the row of q, or comes by way of m
abbrev CameBy : ℕ → List Items → ℕ → ℕ → Type 0
CameBy m rows q i =
    (has (below_of rows q) i ≡ true)
    ⊎ ((has (below_of rows q) m ≡ true) × (has (below_of rows m) i ≡ true))

came : (m : ℕ) (rows : List Items) (q i : ℕ) → has (below_of (through m rows) q) i ≡ true
    → CameBy m rows q i
came m rows q i h =
    let by_m = has (below_of rows q) m && has (below_of rows m) i in
    elim (or_cases (has (below_of rows q) i) by_m (sym (has-through m rows q i) ∙ h)) [
      | inl a ↦ inl a
      | inr a ↦ inr (and_parts (has (below_of rows q) m) (has (below_of rows m) i) a)
    ]

comes : (m : ℕ) (rows : List Items) (q i : ℕ) → CameBy m rows q i
    → has (below_of (through m rows) q) i ≡ true
comes m rows q i h =
    let by_m = has (below_of rows q) m && has (below_of rows m) i in
    has-through m rows q i ∙ elim h [
      | inl a ↦ or_left (has (below_of rows q) i) by_m a
      | inr a ↦ or_right (has (below_of rows q) i) by_m
          (and_from (has (below_of rows q) m) (has (below_of rows m) i) a.0 a.1)
    ]

-- ---- by way of the first m items

abbrev IsThrough : ℕ → List Items → Type 0
IsThrough m rows = (q x i : ℕ) → x < m → has (below_of rows q) x ≡ true
    → has (below_of rows x) i ≡ true → has (below_of rows q) i ≡ true

through-next : (m : ℕ) (rows : List Items) → IsThrough m rows → IsThrough (suc m) (through m rows)
through-next m rows h q x i l a b =
    let first = came m rows q x a in
    let second = came m rows x i b in
    comes m rows q i (elim (cases_eq x m) [
      | inl e ↦ inr (at_m e first, from_m e second)
      | inr other ↦ elim first [
        | inl c ↦ elim second [
          | inl d ↦ inl (h q x i (omega arith) c d)
          | inr d ↦ inr (h q x m (omega arith) c d.0, d.1)
        ]
        | inr c ↦ elim second [
          | inl d ↦ inr (c.0, h m x i (omega arith) c.1 d)
          | inr d ↦ inr (c.0, d.1)
        ]
      ]
    ])
  where
    at_m : x ≡ m → CameBy m rows q x → has (below_of rows q) m ≡ true
    at_m e (inl c) = ap (has (below_of rows q)) (sym e) ∙ c
    at_m e (inr c) = c.0

    from_m : x ≡ m → CameBy m rows x i → has (below_of rows m) i ≡ true
    from_m e (inl d) = ap (λ y. has (below_of rows y) i) (sym e) ∙ d
    from_m e (inr d) = d.1

closed-through : (m : ℕ) (rows : List Items) → IsThrough m (closed m rows)
closed-through zero rows q x i l a b = absurd (omega arith)
closed-through (suc m) rows q x i l a b =
    through-next m (closed m rows) (closed-through m rows) q x i l a b

-- ---- all items

pub past-rows : (rows : List Items) (q : ℕ) → length rows ≤ q → below_of rows q ≡ empty
past-rows [] q l = refl
past-rows (row ∷ rows) zero l = absurd (omega arith)
past-rows (row ∷ rows) (suc q) l = past-rows rows q (omega arith)

pub closed-transitive : (rows : List Items) (q r : ℕ)
    → has (below_of (closed (length rows) rows) q) r ≡ true
    → IsWithin (below_of (closed (length rows) rows) r) (below_of (closed (length rows) rows) q)
closed-transitive rows q r a i b =
    let n = length rows in
    elim (cases_lt r n) [
      | inl l ↦ closed-through n rows q r i l a b
      | inr l ↦
          let e = past-rows (closed n rows) r (let d = length-closed n rows in omega arith) in
          absurd (true≢false (sym b ∙ ap (λ s. has s i) e ∙ has-empty i))
    ]

pub closed-keeps : (m : ℕ) (rows : List Items) (q : ℕ)
    → IsWithin (below_of rows q) (below_of (closed m rows) q)
closed-keeps zero rows q i h = h
closed-keeps (suc m) rows q i h =
    comes m (closed m rows) q i (inl (closed-keeps m rows q i h))

-- what is transitive and holds of the rows holds of them when they are closed
pub closed-least : (R : ℕ → ℕ → Type 0) (m : ℕ) (rows : List Items)
    → ((x y z : ℕ) → R x y → R y z → R x z)
    → ((q i : ℕ) → has (below_of rows q) i ≡ true → R i q) → (q i : ℕ)
    → has (below_of (closed m rows) q) i ≡ true → R i q
closed-least R zero rows transitive holds q i h = holds q i h
closed-least R (suc m) rows transitive holds q i h =
    let before = closed-least R m rows transitive holds in
    elim (came m (closed m rows) q i h) [
      | inl a ↦ before q i a
      | inr a ↦ transitive i m q (before m i a.1) (before q m a.0)
    ]
