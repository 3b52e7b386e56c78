-- The sets of one size: how many there are, and so how many the blocks have.
use Rattle.ls_query.proofs.Vocabulary.{◌++◌, ◌+◌, ◌-◌, ◌<◌, ◌||◌, ◌∙◌, ◌∷◌, ◌≡◌, ◌≤◌, Each-weaker, IsBetween, Items, List, ℕ, [], ap, append-nil, ap₂, arith, blocks, choose, empty, eqb, false, false_from_ne_true, filter, flat_map, full, has, has-full, has-single, has-with, le-ltb, len, len-empty, len-parts, len-single, length, length-append, length-map, map, members, minus, nat_tests, ne_eqb, numbers_from, refl, same_set, single, subsets_from, subsets_from-between, suc, sym, with, zero}
use Rattle.std.proofs.lemmas.Grind.{flat_map-append}
use Rattle.std.proofs.lemmas.List.Elements.{filter-append}
use Rattle.ls_lists.proofs.Filters.{filter-map, filter-agree, filter-nothing}
use Rattle.ls_query.proofs.Binomials.{choose-none, choose-more, choose-zero_more}

-- ---- sizes

pub len-with : (s : Items) (i : ℕ) → has s i ≡ false → len (with s i) ≡ suc (len s)
len-with s i h =
    let e : len (with s i) ≡ len s + len (single i) = len-parts s (single i) (with s i) (λ j. has-with s i j ∙ ap (λ b. has s j || b) (sym (has-single i j))) (λ j. let out = h in grind (arith, members, nat_tests)) in
    omega (arith, e, len-single i)

pub len-full : (n : ℕ) → len (full n) ≡ n
len-full zero = ap len (same_set (full 0) empty (λ j. grind (arith, members, nat_tests))) ∙ len-empty
len-full (suc n) =
    ap len (same_set (full (suc n)) (with (full n) n) (λ j. grind (arith, members, nat_tests)))
    ∙ len-with (full n) n (has-full n n ∙ le-ltb n n (omega arith)) ∙ ap suc (len-full n)

-- the items from x on, below y
pub len-range : (x y : ℕ) → x ≤ y → len (minus (full y) (full x)) ≡ y - x
len-range x y l =
    let e : len (full y) ≡ len (full x) + len (minus (full y) (full x)) = len-parts (full x) (minus (full y) (full x)) (full y) (λ j. grind (arith, members, nat_tests)) (λ j. grind (arith, members, nat_tests)) in
    omega (arith, e, len-full x, len-full y)

-- ---- the sets of one size

-- the sets of `size` of the m items from i on, in the order
abbrev pub of_size : ℕ → ℕ → ℕ → List Items
of_size i m size = filter (λ a. eqb (len a) size) (subsets_from i m)

with_size : (i m size : ℕ) (s : Items) → IsBetween (suc i) m s → eqb (len (with s i)) (suc size) ≡ eqb (len s) size
with_size i m size s h =
    let e : len (with s i) ≡ suc (len s) = len-with s i (false_from_ne_true (has s i) (λ a. let l = (h i a).0 in absurd (omega arith))) in
    rw e (grind (arith, nat_tests))

with_none : (i m : ℕ) (s : Items) → IsBetween (suc i) m s → eqb (len (with s i)) 0 ≡ false
with_none i m s h =
    let e : len (with s i) ≡ suc (len s) = len-with s i (false_from_ne_true (has s i) (λ a. let l = (h i a).0 in absurd (omega arith))) in
    ne_eqb (len (with s i)) 0 (λ q. omega arith)

-- those with the first item, and those without it
pub of_size-more : (i m size : ℕ) → of_size i (suc m) (suc size) ≡ map (λ s. with s i) (of_size (suc i) m size) ++ of_size (suc i) m (suc size)
of_size-more i m size =
    filter-append (λ a. eqb (len a) (suc size)) (map (λ s. with s i) (subsets_from (suc i) m)) (subsets_from (suc i) m)
    ∙ ap (λ l. l ++ of_size (suc i) m (suc size)) (filter-map (λ a. eqb (len a) (suc size)) (λ s. with s i) (subsets_from (suc i) m)
    ∙ ap (map (λ s. with s i)) (filter-agree (λ s. eqb (len (with s i)) (suc size)) (λ s. eqb (len s) size) (subsets_from (suc i) m)
    (Each-weaker (IsBetween (suc i) m) (λ s. eqb (len (with s i)) (suc size) ≡ eqb (len s) size) (with_size i m size) (subsets_from (suc i) m) (subsets_from-between (suc i) m))))

pub of_size-none : (i m : ℕ) → of_size i (suc m) 0 ≡ of_size (suc i) m 0
of_size-none i m =
    filter-append (λ a. eqb (len a) 0) (map (λ s. with s i) (subsets_from (suc i) m)) (subsets_from (suc i) m)
    ∙ ap (λ l. l ++ of_size (suc i) m 0) (filter-map (λ a. eqb (len a) 0) (λ s. with s i) (subsets_from (suc i) m)
    ∙ ap (map (λ s. with s i)) (filter-agree (λ s. eqb (len (with s i)) 0) (λ s. false) (subsets_from (suc i) m)
    (Each-weaker (IsBetween (suc i) m) (λ s. eqb (len (with s i)) 0 ≡ false) (with_none i m) (subsets_from (suc i) m) (subsets_from-between (suc i) m))
    ∙ filter-nothing (subsets_from (suc i) m)))

-- the number of sets of a size is the binomial coefficient
pub length-of_size : (i m size : ℕ) → length (of_size i m size) ≡ choose m size
length-of_size i zero zero = rw (len-empty, choose-none 0) refl
length-of_size i zero (suc size) = rw (len-empty, ne_eqb 0 (suc size) (λ e. omega arith), choose-zero_more size) refl
length-of_size i (suc m) zero = ap length (of_size-none i m) ∙ length-of_size (suc i) m 0 ∙ choose-none m ∙ sym (choose-none (suc m))
length-of_size i (suc m) (suc size) =
    ap length (of_size-more i m size) ∙ length-append (map (λ s. with s i) (of_size (suc i) m size)) (of_size (suc i) m (suc size))
    ∙ ap₂ (λ x y. x + y) (length-map (of_size (suc i) m size) (λ s. with s i) ∙ length-of_size (suc i) m size) (length-of_size (suc i) m (suc size)) ∙ sym (choose-more m size)

-- ---- the blocks

numbers-last : (i m : ℕ) → numbers_from i (suc m) ≡ numbers_from i m ++ (i + m) ∷ []
numbers-last i zero = ap (λ x. x ∷ []) (let e : i ≡ i + 0 = omega arith in e)
numbers-last i (suc m) = ap (λ l. i ∷ l) (numbers-last (suc i) m ∙ ap (λ x. numbers_from (suc i) m ++ x ∷ []) (let e : suc i + m ≡ i + suc m = omega arith in e))

-- the blocks of one size more
pub blocks-more : (n k : ℕ) → blocks n (suc k) ≡ blocks n k ++ of_size 0 n (suc k)
unfolding blocks
blocks-more n k =
    ap (flat_map (of_size 0 n)) (numbers-last 1 k) ∙ flat_map-append (of_size 0 n) (numbers_from 1 k) ((1 + k) ∷ [])
    ∙ ap (λ l. flat_map (of_size 0 n) (numbers_from 1 k) ++ l) (append-nil (of_size 0 n (1 + k)) ∙ ap (of_size 0 n) (let e : 1 + k ≡ suc k = omega arith in e))

pub length-blocks_more : (n k : ℕ) → length (blocks n (suc k)) ≡ length (blocks n k) + choose n (suc k)
length-blocks_more n k = ap length (blocks-more n k) ∙ length-append (blocks n k) (of_size 0 n (suc k)) ∙ ap (λ x. length (blocks n k) + x) (length-of_size 0 n (suc k))

pub length-blocks_none : (n : ℕ) → length (blocks n 0) ≡ 0
unfolding blocks
length-blocks_none n = refl

length-blocks_grows : (n k d : ℕ) → length (blocks n k) ≤ length (blocks n (k + d))
length-blocks_grows n k zero = rw (let e : k + 0 ≡ k = omega arith in e) (omega arith)
length-blocks_grows n k (suc d) = rw (let e : k + suc d ≡ suc (k + d) = omega arith in e) (omega (arith, length-blocks_grows n k d, length-blocks_more n (k + d)))

pub length-blocks_shorter : (n j k : ℕ) → j ≤ k → length (blocks n j) ≤ length (blocks n k)
length-blocks_shorter n j k h =
    let e : j + (k - j) ≡ k = omega arith in
    rw (sym e) (length-blocks_grows n j (k - j))

-- the sets of any size of the blocks are no more than the blocks
pub choose-within : (n size k : ℕ) → 0 < size → size ≤ k → choose n size ≤ length (blocks n k)
choose-within n zero k some h = absurd (omega arith)
choose-within n (suc size) k some h =
    omega (arith, length-blocks_shorter n (suc size) k h, length-blocks_more n size)
