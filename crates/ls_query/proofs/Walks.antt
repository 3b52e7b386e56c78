-- Walks through the sets of blocks: the greatest item of a set, and the step by it.
use Rattle.ls_query.proofs.Vocabulary.{◌+◌, ◌-◌, ◌<◌, ◌∙◌, ◌≡◌, ◌≤◌, AreBounded, BlockRange, Bool, HasNoMove, IsGreatest, IsLastMove, IsWithin, Items, None, Option, Some, ℕ, add-one, ap, arith, block_before, blocks, cases_Bool, cases_order, empty, false, false_from_ne_true, find, find-is, full, has, has-empty, has-full, inl, inr, keep_before, len, len-empty, lt-ltb, ltb-true, members, minus, moved, nat_tests, refl, same_set, block_sets, suc, sym, true, true≢false, union, with, without, zero}
use Rattle.std.specs.Option.{MatchOption, SomeIff}
use Rattle.ls_query.specs.Walks.{topped, IsWalk}
use Rattle.ls_query.proofs.BlockSets.{IsOfBlocks, blocks-in, sorted-blocks}
use Rattle.ls_query.proofs.BlockOrder.{before-asymmetric}
use Rattle.ls_query.proofs.BySize.{len-with}
use Rattle.ls_query.proofs.Steps.{find-moved, find-next_size}

-- ---- a set by its greatest item

pub topped-with : (others : Items) (i : ℕ) → topped others (i + 1) ≡ with others i
topped-with others i = ap (topped others) (add-one i)

pub topped-some : (others : Items) (end : ℕ) → (end ≡ 0 → ⊥) → with others (end - 1) ≡ topped others end
topped-some others zero n = absurd (n refl)
topped-some others (suc i) n = ap (with others) (let e : suc i - 1 ≡ i = omega arith in e)

-- a set with its greatest item put back
put_back : (a : Items) (i : ℕ) → has a i ≡ true → with (without a i) i ≡ a
put_back a i h = same_set (with (without a i) i) a (λ j. let x = h in grind (arith, members, nat_tests))

pub topped-at : (a : Items) (i : ℕ) → IsGreatest a i → topped (without a i) (i + 1) ≡ a
topped-at a i g = topped-with (without a i) i ∙ put_back a i g.here

pub greatest-small : (b : BlockRange) (a : Items) (i : ℕ) → IsWithin a (full b.item_count) → IsGreatest a i → i < b.item_count
greatest-small b a i within g = ltb-true i b.item_count (sym (has-full b.item_count i) ∙ within i g.here)

pub walk-at : (b : BlockRange) (a : Items) (i : ℕ) → AreBounded b → IsWithin a (full b.item_count) → len a ≤ b.largest → IsGreatest a i → IsWalk b (without a i) (i + 1)
walk-at b a i bounded within size g =
    let n = b.item_count in
    let small = greatest-small b a i within g in
    let out : has (without a i) i ≡ false = grind (arith, members, nat_tests) in
    let more : len a ≡ suc (len (without a i)) = sym (ap len (put_back a i g.here)) ∙ len-with (without a i) i out in
    record {
      few = bounded.few_items;
      sizes = bounded.few_sizes;
      within = omega arith;
      below = λ j h. elim (cases_order j i) [
        | inl e ↦ absurd (true≢false (sym h ∙ ap (has (without a i)) e ∙ out))
        | inr (inl l) ↦ omega arith
        | inr (inr l) ↦ let in_a : has a j ≡ true = grind (arith, members, nat_tests) in absurd (true≢false (sym in_a ∙ g.above j l))
      ];
      size = omega (arith, more, size);
    }

pub walk-none : (b : BlockRange) (a : Items) → AreBounded b → a ≡ empty → IsWalk b a 0
walk-none b a bounded e = record {
  few = bounded.few_items;
  sizes = bounded.few_sizes;
  within = omega arith;
  below = λ j h. absurd (true≢false (sym h ∙ ap (λ s. has s j) e ∙ has-empty j));
  size = omega (arith, ap len e, len-empty, bounded.some_sizes);
}

-- ---- the sets that are come to

pub others-within : (b : BlockRange) (others : Items) (end : ℕ) → IsWalk b others end → IsWithin others (full b.item_count)
others-within b others end w j h =
    let l = w.below j h in
    let m = w.within in
    has-full b.item_count j ∙ lt-ltb j b.item_count (omega arith)

-- no item of the others is the greatest
lacks : (b : BlockRange) (others : Items) (i : ℕ) → IsWalk b others (suc i) → has others i ≡ false
lacks b others i w = false_from_ne_true (has others i) (λ h. let l = w.below i h in omega arith)

none-others : (b : BlockRange) (others : Items) → IsWalk b others 0 → others ≡ empty
none-others b others w = same_set others empty (λ j. false_from_ne_true (has others j) (λ h. let l = w.below j h in omega arith) ∙ sym (has-empty j))

pub topped-within : (b : BlockRange) (others : Items) (end : ℕ) → IsWalk b others end → IsWithin (topped others end) (full b.item_count)
topped-within b others zero w = λ j h. others-within b others zero w j h
topped-within b others (suc i) w = λ j h.
    let n = b.item_count in
    let m : i < n = let l = w.within in omega arith in
    let old = others-within b others (suc i) w j in
    let in_with : has (with others i) j ≡ true = h in
    let small = has-full n j in
    elim (cases_order j i) [
      | inl e ↦ small ∙ lt-ltb j n (omega arith)
      | inr (inl l) ↦ small ∙ lt-ltb j n (omega arith)
      | inr (inr l) ↦ old (grind (arith, members, nat_tests))
    ]

pub topped-size : (b : BlockRange) (others : Items) (end : ℕ) → IsWalk b others end → len (topped others end) ≤ b.largest
topped-size b others zero w = let l = w.size in omega arith
topped-size b others (suc i) w =
    let more : len (with others i) ≡ suc (len others) = len-with others i (lacks b others i w) in
    let l = w.size in
    omega arith

-- ---- the next set has the next item, while there is one

greatest-moves : (n : ℕ) (others : Items) (i : ℕ) → ((j : ℕ) → has others j ≡ true → j < i) → i + 1 < n → IsLastMove n (with others i) i
greatest-moves n others i below room = record {
  room = room;
  here = grind (arith, members, nat_tests);
  free = above (i + 1) (omega arith);
  last = λ j l s h. absurd (true≢false (sym h ∙ above j l));
}
  where
    above : (j : ℕ) → i < j → has (with others i) j ≡ false
    above j l =
        let out : has others j ≡ false = false_from_ne_true (has others j) (λ h. let m = below j h in omega arith) in
        grind (arith, members, nat_tests)

moved-greatest : (others : Items) (i : ℕ) → ((j : ℕ) → has others j ≡ true → j < i) → moved (with others i) i ≡ with others (i + 1)
moved-greatest others i below =
    let out : has others i ≡ false = false_from_ne_true (has others i) (λ h. let m = below i h in omega arith) in
    let kept : keep_before (with others i) i ≡ others = same_set (keep_before (with others i) i) others (λ j. let low = below j in elim (cases_Bool (has others j)) [
      | inl h ↦ let l : j < i = low h in grind (arith, members, nat_tests)
      | inr h ↦ grind (arith, members, nat_tests)
    ]) in
    let more : len (with others i) ≡ suc (len others) = len-with others i out in
    let one : i + 1 + (len (with others i) - len (keep_before (with others i) i)) ≡ i + 2 = rw (kept, more) (omega arith) in
    rw (one, kept) (same_set (union (minus (full (i + 2)) (full (i + 1))) others) (with others (i + 1)) (λ j. grind (arith, members, nat_tests)))

only : (others : Items) → ((j : ℕ) → has others j ≡ false) → full 1 ≡ with others 0
only others none = same_set (full 1) (with others 0) (λ j. let low = none j in grind (arith, members, nat_tests))

pub topped-next : (b : BlockRange) (others : Items) (end : ℕ) → IsWalk b others end → end < b.item_count → find (block_before (topped others end)) (blocks b.item_count b.largest) ≡ Some (topped others (end + 1))
topped-next b others zero w room =
    let none : HasNoMove b.item_count others = λ j l h. let m = w.below j h in absurd (omega arith) in
    let size : len others ≡ 0 = ap len (none-others b others w) ∙ len-empty in
    let l = w.size in
    find-next_size b.item_count b.largest others w.sizes l none
    ∙ ap Some (rw size (only others (λ j. ap (λ s. has s j) (none-others b others w) ∙ has-empty j)))
topped-next b others (suc i) w room =
    let below : (j : ℕ) → has others j ≡ true → j < i = λ j h. let l = w.below j h in omega arith in
    find-moved b.item_count b.largest (with others i) i (topped-within b others (suc i) w) (topped-size b others (suc i) w) (greatest-moves b.item_count others i below (omega arith))
    ∙ ap Some (moved-greatest others i below ∙ sym (topped-with others (i + 1)) ∙ ap (λ x. topped others (x + 1)) (add-one i))

-- the greatest item, by the end
pub top-is : (b : BlockRange) (others : Items) (end : ℕ) (top : Option ℕ) → IsWalk b others end → SomeIff top (1 ≤ end) (end - 1) → MatchOption top (topped others end ≡ empty) (λ i. topped others end ≡ with others i)
top-is b others zero None w none = none-others b others w
top-is b others zero (Some i) w some = let l = some.0 in absurd (omega arith)
top-is b others (suc i) None w none = absurd (none (omega arith))
top-is b others (suc i) (Some j) w some = ap (with others) (let e = some.1 in omega arith)

-- what is found in the blocks is one of their sets
pub found-of_blocks : (b : BlockRange) (before : Items → Bool) (a : Items) → find before (block_sets b) ≡ Some a → IsOfBlocks b.item_count b.largest a
found-of_blocks b before a e = blocks-in b.item_count b.largest a (find-is block_before before (block_sets b) a (sorted-blocks b.item_count b.largest) before-asymmetric e).0
