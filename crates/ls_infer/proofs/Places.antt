-- Places in lists and in blocks.
use Rattle.ls_infer.proofs.Vocabulary.{◌+◌, ◌<◌, ◌∙◌, ◌∷◌, ◌≡◌, ◌≤◌, BlockRange, Bool, IsWithin, Items, List, None, Some, ℕ, [], add-one, ap, arith, block_before, blocks, blocks-in, closure, cond, empty, false, find, find-next, first-blocks, full, get-append_left, get-in, get-map, len, len-empty, length, map, refl, block_sets, single, slice_get, slice_get-get_or, sorted-blocks, suc, sym, true, zero}
use Rattle.ls_lists.proofs.Finds.{find-any}
use Rattle.ls_query.proofs.BlockOrder.{before-asymmetric}
use Rattle.ls_query.proofs.BySize.{of_size, of_size-more, of_size-none, blocks-more}
use Rattle.ls_infer.proofs.Outside.{with-empty}

-- ---- blocks

pub first_place : (n k : ℕ) → find (block_before empty) (blocks n k) ≡ slice_get (blocks n k) 0
first_place n k = first-blocks n k ∙ find-any (blocks n k)

pub next_place : (n k i : ℕ) (b : Items) → slice_get (blocks n k) i ≡ Some b → find (block_before b) (blocks n k) ≡ slice_get (blocks n k) (i + 1)
next_place n k i b e = find-next block_before (blocks n k) i b (sorted-blocks n k) before-asymmetric e ∙ ap (slice_get (blocks n k)) (sym (add-one i))

pub place-within : (n k i : ℕ) (b : Items) → slice_get (blocks n k) i ≡ Some b → IsWithin b (full n)
place-within n k i b e = (blocks-in n k b (get-in (blocks n k) i b e)).within

pub place-few : (n k i : ℕ) (b : Items) → slice_get (blocks n k) i ≡ Some b → len b ≤ k
place-few n k i b e = (blocks-in n k b (get-in (blocks n k) i b e)).few

-- ---- walks

-- a walk that goes on comes to the set at the place
pub came-to : (b of_walk : BlockRange) (i : ℕ) (old new : Items) (went : Bool) → of_walk ≡ b → find (block_before old) (block_sets b) ≡ slice_get (block_sets b) i
    → find (block_before old) (block_sets of_walk) ≡ cond went (Some new) None → went ≡ true → slice_get (block_sets b) i ≡ Some new
came-to b of_walk i old new went same place next went_on =
    sym place ∙ ap (λ x. find (block_before old) (block_sets x)) (sym same) ∙ next ∙ ap (λ t. cond t (Some new) None) went_on

-- and it does where there is one
pub came-within : (b of_walk : BlockRange) (i : ℕ) (old new : Items) (went : Bool) → of_walk ≡ b → find (block_before old) (block_sets b) ≡ slice_get (block_sets b) i
    → find (block_before old) (block_sets of_walk) ≡ cond went (Some new) None → i < length (block_sets b) → slice_get (block_sets b) i ≡ Some new
came-within b of_walk i old new true same place next l = came-to b of_walk i old new true same place next refl
came-within b of_walk i old new false same place next l =
    let there = slice_get-get_or (block_sets b) i old l in
    let none : slice_get (block_sets b) i ≡ None = sym place ∙ ap (λ x. find (block_before old) (block_sets x)) (sym same) ∙ next in
    let clash = sym none ∙ there in
    cc

-- and where it doesn't go on there is none
pub came-past : (b of_walk : BlockRange) (i : ℕ) (old new : Items) (went : Bool) → of_walk ≡ b → find (block_before old) (block_sets b) ≡ slice_get (block_sets b) i
    → find (block_before old) (block_sets of_walk) ≡ cond went (Some new) None → went ≡ false → slice_get (block_sets b) i ≡ None
came-past b of_walk i old new went same place next stayed =
    sym place ∙ ap (λ x. find (block_before old) (block_sets x)) (sym same) ∙ next ∙ ap (λ t. cond t (Some new) None) stayed

-- ---- the sets of one item

of_none : (i m : ℕ) → of_size i m 0 ≡ empty ∷ []
of_none i zero = rw len-empty refl
of_none i (suc m) = of_size-none i m ∙ of_none (suc i) m

of_one : (i m j : ℕ) → j < m → slice_get (of_size i m 1) j ≡ Some (single (i + j))
of_one i zero j l = absurd (omega arith)
of_one i (suc m) zero l = rw (of_size-more i m 0, of_none (suc i) m) (ap Some (with-empty i ∙ ap single (let e : i ≡ i + 0 = omega arith in e)))
of_one i (suc m) (suc j) l = rw (of_size-more i m 0, of_none (suc i) m) (of_one (suc i) m j (omega arith) ∙ ap (λ x. Some (single x)) (let e : suc i + j ≡ i + suc j = omega arith in e))

blocks-none : (n : ℕ) → blocks n 0 ≡ []
unfolding blocks
blocks-none n = refl

-- they are the first of the blocks
of_blocks : (n k i : ℕ) → i < n → slice_get (blocks n (suc k)) i ≡ Some (single i)
of_blocks n zero i l = rw (blocks-more n 0, blocks-none n) (of_one 0 n i l ∙ ap (λ x. Some (single x)) (let e : 0 + i ≡ i = omega arith in e))
of_blocks n (suc k) i l = rw (blocks-more n (suc k)) (get-append_left (blocks n (suc k)) (of_size 0 n (suc (suc k))) i (single i) (of_blocks n k i l))

-- so the closure that is kept there is that of an item alone
pub closed-alone : (n k i : ℕ) (f : List Items) (closures : List Items) (closed : Items) → i < n → closures ≡ map (closure (full n) f) (blocks n k) → slice_get closures i ≡ Some closed → closed ≡ closure (full n) f (single i)
closed-alone n zero i f closures closed l made at =
    let none : slice_get closures i ≡ None = ap (λ c. slice_get c i) (made ∙ ap (map (closure (full n) f)) (blocks-none n)) in
    let clash = sym at ∙ none in
    cc
closed-alone n (suc k) i f closures closed l made at =
    let same : Some closed ≡ Some (closure (full n) f (single i)) = sym at ∙ ap (λ c. slice_get c i) made ∙ get-map (closure (full n) f) (blocks n (suc k)) i (single i) (of_blocks n k i l) in
    cc
