-- The sets of a file so far.
use Rattle.ls_family.proofs.Vocabulary.{◌<◌, ◌∙◌, ◌∷◌, ◌≡◌, ◌≤◌, Decides-is_same, Err, Found, IsInOrder, Items, List, None, Ok, Option, Repeat, Some, TooMany, ℕ, [], ap, ap₂, arith, comes_before, cond, false, inl, inr, insert_entry, inserted, is_at, is_same, length, lookup, most_members, nat_le, nat_tests, order_of, refl, row_found, sym, true, with_set}
use Rattle.std.specs.List.Sorted.{IsStrictlySortedBy}
use Rattle.std.specs.declared.cmp.Ordering.TheVariants.{Less}
use Rattle.ls_set.proofs.Order.{comes_before-asymmetric, order_cases, Each-weaker}
use Rattle.ls_clauses.specs.Orderings.{order-less, order-greater, order-before, same-order}

-- what a map by the order of sets has at a set
row-get : (found : Found) (s : Items) → lookup (is_at (order_of s)) found ≡ row_found found s
row-get [] s = refl
row-get (e ∷ found) s = rw (← same-order s e.0) (ap (λ o. cond (is_same s e.0) (Some e.1) o) (row-get found s))

placed-inserted : (found : Found) (s : Items) (row : ℕ) → row_found found s ≡ None → insert_entry order_of found s row ≡ inserted found s row
placed-inserted [] s row none = refl
placed-inserted (e ∷ found) s row none =
    elim (is_same s e.0) as (λ b. is_same s e.0 ≡ b → insert_entry order_of (e ∷ found) s row ≡ inserted (e ∷ found) s row) [
      | true ↦ λ t. absurd (let z : Some e.1 ≡ None = rw t at none in cc)
      | false ↦ λ f.
          let rest : row_found found s ≡ None = rw f at none in
          elim (order_cases s e.0) [
            | inl h ↦ absurd (let z : true ≡ false = sym ((Decides-is_same s e.0).1 h) ∙ f in cc)
            | inr h ↦ elim h [
              | inl a ↦ rw (order-less s e.0 a, a) refl
              | inr b ↦ rw (order-greater s e.0 b, comes_before-asymmetric e.0 s b) (ap (λ l. e ∷ l) (placed-inserted found s row rest))
            ]
          ]
    ] refl

pub in_order-keys : (ss : List Items) → IsStrictlySortedBy order_of ss → IsInOrder ss
unfolding IsStrictlySortedBy
in_order-keys [] h = tt
in_order-keys (s ∷ ss) h = (Each-weaker (λ t. order_of s t ≡ Less) (λ t. comes_before s t ≡ true) (λ t. order-before s t) ss h.0, in_order-keys ss h.1)

-- what a map has at a key that is a set, where the map's entries are the sets so far
pub row-at : (rows found : Found) (key s : Items) (old : Option ℕ) → rows ≡ found → key ≡ s
    → old ≡ lookup (is_at (order_of key)) rows → old ≡ row_found found s
row-at rows found key s old are same at = at ∙ row-get rows key ∙ ap₂ row_found are same

pub put-inserted : (rows found : Found) (key s : Items) (row : ℕ) → rows ≡ found → key ≡ s
    → row_found found s ≡ None → insert_entry order_of rows key row ≡ inserted found s row
put-inserted rows found key s row are same none =
    ap₂ (λ f k. insert_entry order_of f k row) are same ∙ placed-inserted found s row none

-- ---- one set more

pub with_set-repeat : (found : Found) (row first : ℕ) (s : Items) → Some first ≡ row_found found s → with_set found row s ≡ Err (Repeat row first)
with_set-repeat found row first s e = rw (← e) refl

pub with_set-many : (found : Found) (row : ℕ) (s : Items) → None ≡ row_found found s → most_members ≤ length found → with_set found row s ≡ Err (TooMany row)
with_set-many found row s e full =
    let test : nat_le most_members (length found) ≡ true = grind (arith, nat_tests) in
    rw (← e, test) refl

pub with_set-placed : (found : Found) (row : ℕ) (s : Items) → None ≡ row_found found s → length found < most_members → with_set found row s ≡ Ok (inserted found s row)
with_set-placed found row s e room =
    let test : nat_le most_members (length found) ≡ false = grind (arith, nat_tests) in
    rw (← e, test) refl
