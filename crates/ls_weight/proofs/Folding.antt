-- Tables that are folded: each pair of cells becomes its sum.
use Rattle.ls_weight.proofs.Vocabulary.{◌%◌, ◌*◌, ◌+◌, ◌-◌, ◌/◌, ◌<◌, ◌^◌, ◌∙◌, ◌≡◌, ◌≤◌, List, ℕ, add-one, ap, ap₂, arith, bit_at, cells_with, cond, eqb, false, get_or, length, refl, row_at, suc, sum, sum_below, sym, table_cells, true, zero}
use Rattle.std.proofs.lemmas.Nat.Bits.{bit_at-suc, bit_at_lowest}
use Rattle.ls_weight.proofs.Passing.{row-full, row-index}
use Rattle.ls_weight.proofs.SumsBelow.{sum_by-below, sum_below-fewer, sum_below-le, sum_below-next, sum_below-none, sum_below-same}

-- a sum by pairs
pub sum_below-pairs : (n : ℕ) (f : ℕ → ℕ) → sum_below (2 * n) f ≡ sum_below n (λ v. f (2 * v) + f (2 * v + 1))
unfolding sum_below
sum_below-pairs zero f = sum_below-none f
sum_below-pairs (suc n) f =
    let rest = sum_below-pairs n f in
    let twice : 2 * suc n ≡ suc (suc (2 * n)) = omega arith in
    let one : suc (2 * n) ≡ 2 * n + 1 = omega arith in
    ap (λ m. sum_below m f) twice ∙ ap (λ m. sum_below (2 * n) f + f (2 * n) + f m) one ∙ (let e : _ ≡ _ = omega arith in e)

-- the first n cells for the numbers of which digit i is 1, in all
abbrev pub digit_sum : ℕ → (ℕ → ℕ) → ℕ → ℕ
digit_sum n f i = sum_below n (λ v. cond (eqb (bit_at v i) 1) (f v) 0)

half-even : (v : ℕ) → (2 * v) / 2 ≡ v
half-even v = omega arith

half-odd : (v : ℕ) → (2 * v + 1) / 2 ≡ v
half-odd v = omega arith

even-digit : (v i : ℕ) → bit_at (2 * v) (i + 1) ≡ bit_at v i
even-digit v i = ap (λ m. bit_at (2 * v) m) (add-one i) ∙ bit_at-suc (2 * v) i ∙ ap (λ m. bit_at m i) (half-even v)

odd-digit : (v i : ℕ) → bit_at (2 * v + 1) (i + 1) ≡ bit_at v i
odd-digit v i = ap (λ m. bit_at (2 * v + 1) m) (add-one i) ∙ bit_at-suc (2 * v + 1) i ∙ ap (λ m. bit_at m i) (half-odd v)

even-lowest : (v : ℕ) → bit_at (2 * v) 0 ≡ 0
even-lowest v = bit_at_lowest (2 * v) ∙ (let e : (2 * v) % 2 ≡ 0 = omega arith in e)

odd-lowest : (v : ℕ) → bit_at (2 * v + 1) 0 ≡ 1
odd-lowest v = bit_at_lowest (2 * v + 1) ∙ (let e : (2 * v + 1) % 2 ≡ 1 = omega arith in e)

-- the second cells of the pairs are those with the lowest digit
pub lowest-sum : (n : ℕ) (f : ℕ → ℕ) → sum_below n (λ v. f (2 * v + 1)) ≡ digit_sum (2 * n) f 0
lowest-sum n f =
    sum_below-same n (λ v. f (2 * v + 1)) (λ v. cond (eqb (bit_at (2 * v) 0) 1) (f (2 * v)) 0 + cond (eqb (bit_at (2 * v + 1) 0) 1) (f (2 * v + 1)) 0)
    (λ v l. rw (even-lowest v, odd-lowest v) (omega arith))
    ∙ sym (sum_below-pairs n (λ v. cond (eqb (bit_at v 0) 1) (f v) 0))

both-cond : (a b : ℕ) (c : ℕ) → cond (eqb c 1) (a + b) 0 ≡ cond (eqb c 1) a 0 + cond (eqb c 1) b 0
both-cond a b c = elim (eqb c 1) as (λ t. cond t (a + b) 0 ≡ cond t a 0 + cond t b 0) [ true ↦ refl | false ↦ refl ]

-- what is folded has at each digit what was there at the next one
pub folded-sum : (n : ℕ) (f g : ℕ → ℕ) (i : ℕ) → ((v : ℕ) → v < n → g v ≡ f (2 * v) + f (2 * v + 1)) → digit_sum n g i ≡ digit_sum (2 * n) f (i + 1)
folded-sum n f g i h =
    sum_below-same n (λ v. cond (eqb (bit_at v i) 1) (g v) 0) (λ v. cond (eqb (bit_at (2 * v) (i + 1)) 1) (f (2 * v)) 0 + cond (eqb (bit_at (2 * v + 1) (i + 1)) 1) (f (2 * v + 1)) 0)
    (λ v l. rw (even-digit v i, odd-digit v i, h v l) (both-cond (f (2 * v)) (f (2 * v + 1)) (bit_at v i)))
    ∙ sym (sum_below-pairs n (λ v. cond (eqb (bit_at v (i + 1)) 1) (f v) 0))

pub folded-all : (n : ℕ) (f g : ℕ → ℕ) → ((v : ℕ) → v < n → g v ≡ f (2 * v) + f (2 * v + 1)) → sum_below n g ≡ sum_below (2 * n) f
folded-all n f g h = sum_below-same n g (λ v. f (2 * v) + f (2 * v + 1)) h ∙ sym (sum_below-pairs n f)

-- a pair comes to no more than all cells, and so do the second ones up to it
pub pair-fits : (n v : ℕ) (f : ℕ → ℕ) → v < n → f (2 * v) + f (2 * v + 1) ≤ sum_below (2 * n) f
pair-fits n v f l =
    let pair = λ (k : ℕ). f (2 * k) + f (2 * k + 1) in
    let whole = sum_below-pairs n f in
    let next = sum_below-next v pair in
    let part = sum_below-fewer (v + 1) n pair (omega arith) in
    omega arith

pub seconds-fit : (n v : ℕ) (f : ℕ → ℕ) → v < n → sum_below v (λ k. f (2 * k + 1)) + f (2 * v + 1) ≤ sum_below (2 * n) f
seconds-fit n v f l =
    let second = λ (k : ℕ). f (2 * k + 1) in
    let whole = sum_below-pairs n f in
    let next = sum_below-next v second in
    let part = sum_below-fewer (v + 1) n second (omega arith) in
    let le = sum_below-le n second (λ k. f (2 * k) + f (2 * k + 1)) (λ k b. omega arith) in
    omega arith

-- ---- a table that is folded once a digit

halves : (j : ℕ) → j < 8 → (256 / 2 ^ j ≡ 2 * (256 / 2 ^ (j + 1))) × (256 / 2 ^ j ≤ 256)
halves zero l = (refl, omega arith)
halves (suc zero) l = (refl, omega arith)
halves (suc (suc zero)) l = (refl, omega arith)
halves (suc (suc (suc zero))) l = (refl, omega arith)
halves (suc (suc (suc (suc zero)))) l = (refl, omega arith)
halves (suc (suc (suc (suc (suc zero))))) l = (refl, omega arith)
halves (suc (suc (suc (suc (suc (suc zero)))))) l = (refl, omega arith)
halves (suc (suc (suc (suc (suc (suc (suc zero))))))) l = (refl, omega arith)
halves (suc (suc (suc (suc (suc (suc (suc (suc j)))))))) l = absurd (omega arith)

-- from `start` on the tables have the row, folded j times
pub record IsFolded (j : ℕ) (tables : List ℕ) (start : ℕ) (row : List ℕ) : Type 0 where
  pub digits : (i : ℕ) → j ≤ i → i < 8 → digit_sum (256 / 2 ^ j) (λ v. get_or tables (start + v) 0) (i - j) ≡ cells_with row i
  pub all : sum_below (256 / 2 ^ j) (λ v. get_or tables (start + v) 0) ≡ sum row

-- the half that is left is within the table
pub half-within : (j : ℕ) → j < 8 → 2 * (256 / 2 ^ (j + 1)) ≤ 256
half-within j l = omega (arith, (halves j l).0, (halves j l).1)

pub unfolded : (old tables : List ℕ) (g width : ℕ) → length old ≡ table_cells * width → g < width → ((k : ℕ) → 256 * g ≤ k → get_or tables k 0 ≡ get_or old k 0) → IsFolded 0 tables (256 * g) (row_at old table_cells g)
unfolded old tables g width long l same =
    let row = row_at old 256 g in
    let cell : (v : ℕ) → v < 256 → get_or tables (256 * g + v) 0 ≡ get_or row v 0 = λ v b. same (256 * g + v) (omega arith) ∙ sym (row-index old 256 g v 0 b) in
    record {
      digits = λ i b m. rw (let e : i - 0 ≡ i = omega arith in e) (sum_below-same 256 _ (λ v. cond (eqb (bit_at v i) 1) (get_or row v 0) 0) (λ v k. ap (λ n. cond (eqb (bit_at v i) 1) n 0) (cell v k)));
      all = sum_below-same 256 _ (λ v. get_or row v 0) cell ∙ sym (sum_by-below (λ (n : ℕ). n) row 0 ∙ ap (λ m. sum_below m (λ v. get_or row v 0)) (row-full old 256 width g long l));
    }

-- what a fold is given, and what it gives
pub fold-all : (j : ℕ) (tables : List ℕ) (start : ℕ) (row : List ℕ) → j < 8 → IsFolded j tables start row → sum_below (2 * (256 / 2 ^ (j + 1))) (λ v. get_or tables (start + v) 0) ≡ sum row
fold-all j tables start row l h = ap (λ n. sum_below n (λ v. get_or tables (start + v) 0)) (sym (halves j l).0) ∙ h.all

pub fold-digit : (j : ℕ) (tables : List ℕ) (start : ℕ) (row : List ℕ) → j < 8 → IsFolded j tables start row → sum_below (256 / 2 ^ (j + 1)) (λ v. get_or tables (start + (2 * v + 1)) 0) ≡ cells_with row j
fold-digit j tables start row l h =
    lowest-sum (256 / 2 ^ (j + 1)) (λ v. get_or tables (start + v) 0)
    ∙ ap₂ (λ n i. digit_sum n (λ v. get_or tables (start + v) 0) i) (sym (halves j l).0) (let none : 0 ≡ j - j = omega arith in none)
    ∙ h.digits j (omega arith) l

pub fold-next : (j : ℕ) (tables new : List ℕ) (start : ℕ) (row : List ℕ) → j < 8 → IsFolded j tables start row → ((v : ℕ) → v < 256 / 2 ^ (j + 1) → get_or new (start + v) 0 ≡ get_or tables (start + 2 * v) 0 + get_or tables (start + (2 * v + 1)) 0) → IsFolded (j + 1) new start row
fold-next j tables new start row l h pairs =
    let n = 256 / 2 ^ (j + 1) in
    let f = λ (v : ℕ). get_or tables (start + v) 0 in
    let g = λ (v : ℕ). get_or new (start + v) 0 in
    record {
      digits = λ i b m.
          folded-sum n f g (i - (j + 1)) pairs
          ∙ ap₂ (λ n i. digit_sum n f i) (sym (halves j l).0) (let next : (i - (j + 1)) + 1 ≡ i - j = omega arith in next)
          ∙ h.digits i (omega arith) m;
      all = folded-all n f g pairs ∙ fold-all j tables start row l h;
    }
