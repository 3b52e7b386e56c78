-- Binomial coefficients: each from the one before it, and how they grow.
use Rattle.ls_query.proofs.Vocabulary.{◌*◌, ◌+◌, ◌-◌, ◌/◌, ◌<◌, ◌≡◌, ◌≤◌, ℕ, ap, arith, cases_lt, choose, inl, inr, refl, suc, zero}
use Rattle.std.proofs.lemmas.Nat.{div-mul-add}

pub choose-none : (m : ℕ) → choose m 0 ≡ 1
unfolding choose
choose-none zero = refl
choose-none (suc m) = refl

pub choose-more : (m j : ℕ) → choose (suc m) (suc j) ≡ choose m j + choose m (suc j)
unfolding choose
choose-more m j = refl

pub choose-zero_more : (j : ℕ) → choose 0 (suc j) ≡ 0
unfolding choose
choose-zero_more j = refl

pub choose-wider : (m j : ℕ) → choose m j ≤ choose (suc m) j
choose-wider m zero = omega (arith, choose-none m, choose-none (suc m))
choose-wider m (suc j) = omega (arith, choose-more m j)

pub choose-grows : (m d j : ℕ) → choose m j ≤ choose (m + d) j
choose-grows m zero j = rw (let e : m + 0 ≡ m = omega arith in e) (omega arith)
choose-grows m (suc d) j = rw (let e : m + suc d ≡ suc (m + d) = omega arith in e) (omega (arith, choose-grows m d j, choose-wider (m + d) j))

-- the sets of one more item, counted with one item each marked: it is one of those that are left, or one was there
absorbed : (m j : ℕ) → suc j * choose m (suc j) + j * choose m j ≡ m * choose m j
absorbed zero zero = rw (choose-zero_more 0) (omega arith)
absorbed zero (suc j) = rw (choose-zero_more j, choose-zero_more (suc j)) (omega arith)
absorbed (suc m) zero =
    let h : m * choose m 0 ≡ m * 1 = ap (λ x. m * x) (choose-none m) in
    rw (choose-more m 0, choose-none m, choose-none (suc m)) (omega (arith, absorbed m 0, h))
absorbed (suc m) (suc j) = rw (choose-more m (suc j), choose-more m j) (omega (arith, absorbed m (suc j), absorbed m j))

times : (m j d : ℕ) → m ≡ j + d → choose m j * d ≡ choose m (suc j) * suc j
times m j d e = let h = absorbed m j in let k : m * choose m j ≡ (j + d) * choose m j = ap (λ x. x * choose m j) e in omega (arith, h, k)

choose-above : (m j : ℕ) → m < j → choose m j ≡ 0
choose-above m zero h = absurd (omega arith)
choose-above zero (suc j) h = choose-zero_more j
choose-above (suc m) (suc j) h = rw (choose-more m j) (omega (arith, choose-above m j (omega arith), choose-above m (suc j) (omega arith)))

-- the next coefficient in a row
pub choose-next : (m j : ℕ) → choose m j * (m - j) / (j + 1) ≡ choose m (j + 1)
choose-next m j =
    let e : choose m j * (m - j) ≡ choose m (suc j) * suc j + 0 = elim (cases_lt m j) [
      | inr l ↦ omega (arith, times m j (m - j) (omega arith))
      | inl l ↦
          let z : m - j ≡ 0 = omega arith in
          rw (z, choose-above m (suc j) (omega arith)) (omega arith)
    ] in
    let s : j + 1 ≡ suc j = omega arith in
    rw (s, e) (div-mul-add (choose m (suc j)) (suc j) 0 (omega arith))
