-- The sets of a size before a set, the set and those after it are all sets of the size.
use Rattle.ls_query.proofs.Vocabulary.{◌+◌, ◌-◌, ◌<◌, ◌∙◌, ◌∷◌, ◌≡◌, ◌≤◌, All, IsWithin, Items, List, Some, ℕ, count_after, ap, arith, blocks, bound, cases_Bool, choose, filter, filter_passes, full, has, has-full, inl, inr, is_same, items, items-within, len, len-within, length, ltb-true, numbers_from, position, refl, suc, sym, zero}
use Rattle.ls_query.proofs.Binomials.{choose-none, choose-more}
use Rattle.ls_query.proofs.BySize.{len-full, length-blocks_more}
use Rattle.ls_query.proofs.BlockSets.{IsOfBlocks}
use Rattle.ls_query.proofs.Placed.{with_first, place_from, place_from-none, place_from-has, place_from-lacks, find-place}

-- ---- all sets of a size

first_and_others : (m size : ℕ) → with_first m size + choose m size ≡ choose (suc m) size
first_and_others m zero = omega (arith, choose-none m, choose-none (suc m))
first_and_others m (suc size) = omega (arith, choose-more m size)

-- the items of a from i on, below i + m
abbrev from_on : Items → ℕ → ℕ → List ℕ
from_on a i m = filter (has a) (numbers_from i m)

before-and-after : (a : Items) (n i m : ℕ) → i + m ≡ n → place_from a i m (length (from_on a i m)) + count_after n (from_on a i m) + 1 ≡ choose m (length (from_on a i m))
before-and-after a n i zero e = rw (place_from-none a i 0, choose-none 0) refl
before-and-after a n i (suc m) e =
    let rest = before-and-after a n (suc i) m (omega arith) in
    let size = length (from_on a (suc i) m) in
    elim (cases_Bool (has a i)) [
      | inl h ↦
          let z : n - i - 1 ≡ m = omega arith in
          let y : suc size - 1 ≡ size = omega arith in
          rw (h, place_from-has a i m (suc size) h, y, z) (omega (arith, rest, choose-more m size))
      | inr h ↦ rw (h, place_from-lacks a i m size h) (omega (arith, rest, first_and_others m size))
    ]

-- the sets before one, it and those after it
pub all-of_size : (n : ℕ) (a : Items) → IsWithin a (full n) → place_from a 0 n (len a) + count_after n (items a) + 1 ≡ choose n (len a)
unfolding len
all-of_size n a h = rw (items-within a n h) (before-and-after a n 0 n (omega arith))

pub after-few : (n : ℕ) (a : Items) → IsWithin a (full n) → count_after n (items a) < choose n (len a)
after-few n a h = omega (arith, all-of_size n a h)

pub len-few : (n : ℕ) (a : Items) → IsWithin a (full n) → len a ≤ n
len-few n a h = omega (arith, len-within a (full n) h, len-full n)

pub items-few : (n : ℕ) (a : Items) → IsWithin a (full n) → All (λ i. i < n) (items a)
unfolding items
items-few n a h k d l = ltb-true _ n (sym (has-full n _) ∙ h _ (filter_passes (has a) (numbers_from 0 (bound a)) k d l))

-- the count goes on, with what is left
pub counted-next : (n : ℕ) (a left rest : Items) (i after size : ℕ) → items left ≡ i ∷ items rest → size ≡ length (items left) → after + count_after n (items left) ≡ count_after n (items a) → after + choose (n - i - 1) size + count_after n (items rest) ≡ count_after n (items a)
counted-next n a left rest i after size step e counted =
    rw (let q : size ≡ suc (length (items rest)) = e ∙ ap length step in q) (omega (arith, counted, ap (count_after n) step))

-- ---- the place in the blocks

pub after-fewer : (n size : ℕ) (a : Items) → IsWithin a (full n) → len a ≡ size → 0 < size → count_after n (items a) < length (blocks n size)
after-fewer n zero a h e some = absurd (omega arith)
after-fewer n (suc size) a h e some =
    let few : count_after n (items a) < choose n (suc size) = rw (sym e) (after-few n a h) in
    omega (arith, few, length-blocks_more n size)

pub find-place_after : (n k size : ℕ) (a : Items) → IsOfBlocks n k a → len a ≡ size → position (is_same a) (blocks n k) ≡ Some (length (blocks n size) - 1 - count_after n (items a))
find-place_after n k zero a h e = let l = h.some in absurd (omega arith)
find-place_after n k (suc size) a h e =
    let all : place_from a 0 n (suc size) + count_after n (items a) + 1 ≡ choose n (suc size) = rw (sym e) (all-of_size n a h.within) in
    let z : suc size - 1 ≡ size = omega arith in
    find-place n k (suc size) a h e ∙ ap Some (rw z (omega (arith, all, length-blocks_more n size)))
