-- The sets of the blocks: which they are, and that they stand in the order.
use Rattle.ls_query.proofs.Vocabulary.{◌<◌, ◌∙◌, ◌∷◌, ◌≡◌, ◌≤◌, IsIn, IsInOrder, IsSorted, IsWithin, IsWithin-from, Items, List, None, ℕ, [], among-in, among-subsets, arith, block_before, blocks, comes_after, comes_before, each-in, empty, eqb, eqb-true, filter-in, find, find-same, flat_map-in, full, is_within-from, len, len-empty, ltb, ltb-true, numbers-in, numbers_from, sorted-as, sorted-filter, sorted-flat_map, subsets, subsets_from-in_order, sym, true}
use Rattle.ls_laws.proofs.Blocks as laws
use Rattle.ls_query.proofs.Sorted.{sorted-numbers}
use Rattle.ls_query.proofs.BySize.{of_size}
use Rattle.ls_query.proofs.BlockOrder.{before-smaller, before-same}

-- a set of 1 to k of n items
pub record IsOfBlocks (n k : ℕ) (a : Items) : Type 0 where
  pub within : IsWithin a (full n)
  pub some : 0 < len a
  pub few : len a ≤ k

pub in-blocks : (n k : ℕ) (a : Items) → IsOfBlocks n k a → IsIn a (blocks n k)
in-blocks n k a h = laws.in-blocks n k a (is_within-from a (full n) h.within) h.some h.few

pub blocks-in : (n k : ℕ) (a : Items) → IsIn a (blocks n k) → IsOfBlocks n k a
unfolding blocks
blocks-in n k a c =
    let r = flat_map-in (of_size 0 n) (numbers_from 1 k) a c in
    let range = numbers-in 1 k r.0 r.1 in
    let low = range.0 in
    let high = range.1 in
    let f = filter-in (λ s. eqb (len s) r.0) (subsets n) a r.2 in
    let e : len a ≡ r.0 = eqb-true (len a) r.0 f.1 in
    record {
      within = IsWithin-from a (full n) (sym (among-subsets n a) ∙ among-in (subsets n) a f.0);
      some = omega arith;
      few = omega arith;
    }

order-sorted : (ss : List Items) → IsInOrder ss → IsSorted comes_before ss
order-sorted [] h = tt
order-sorted (s ∷ ss) h = (λ t c. each-in (λ u. comes_before s u ≡ true) ss t h.0 c, order-sorted ss h.1)

sorted-of_size : (n size : ℕ) → IsSorted block_before (of_size 0 n size)
sorted-of_size n size =
    sorted-as comes_before block_before (of_size 0 n size) (sorted-filter comes_before (λ a. eqb (len a) size) (subsets n) (order-sorted (subsets n) (subsets_from-in_order 0 n)))
    (λ a b c d h. before-same a b (size_of a c ∙ sym (size_of b d)) ∙ h)
  where
    size_of : (a : Items) → IsIn a (of_size 0 n size) → len a ≡ size
    size_of a c = eqb-true (len a) size (filter-in (λ s. eqb (len s) size) (subsets n) a c).1

pub sorted-blocks : (n k : ℕ) → IsSorted block_before (blocks n k)
unfolding blocks
sorted-blocks n k =
    sorted-flat_map ltb block_before (of_size 0 n) (numbers_from 1 k) (sorted-numbers 1 k) (λ size _. sorted-of_size n size)
    (λ x y a b l c d.
    let ea : len a ≡ x = eqb-true (len a) x (filter-in (λ s. eqb (len s) x) (subsets n) a c).1 in
    let eb : len b ≡ y = eqb-true (len b) y (filter-in (λ s. eqb (len s) y) (subsets n) b d).1 in
    let less : x < y = ltb-true x y l in
    before-smaller a b (omega arith))

-- the empty set comes before all of them
pub first-blocks : (n k : ℕ) → find (block_before empty) (blocks n k) ≡ find (comes_after block_before None) (blocks n k)
first-blocks n k = find-same (block_before empty) (λ a. true) (blocks n k) (λ a c. let l = (blocks-in n k a c).some in before-smaller empty a (omega (arith, len-empty)))
