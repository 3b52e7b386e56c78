-- Numbers in a row, and the items of a set among them.
use Rattle.ls_theory.proofs.Vocabulary.{◌++◌, ◌+◌, ◌-◌, ◌<◌, ◌∙◌, ◌∷◌, ◌≡◌, ◌≤◌, ℕ, [], add-one, ap, arith, numbers_from, suc, zero}

numbers_suc : (i m : ℕ) → numbers_from i (suc m) ≡ numbers_from i m ++ (i + m) ∷ []
numbers_suc i zero = ap (λ k. k ∷ []) (let e : i ≡ i + 0 = omega arith in e)
numbers_suc i (suc m) =
    ap (λ l. i ∷ l) (numbers_suc (suc i) m ∙ ap (λ k. numbers_from (suc i) m ++ k ∷ []) (let e : suc i + m ≡ i + suc m = omega arith in e))

-- one more is put last
pub numbers_last : (i m : ℕ) → numbers_from i (m + 1) ≡ numbers_from i m ++ (i + m) ∷ []
numbers_last i m = rw add-one (numbers_suc i m)

-- the numbers from i on that are below n: the first of them, and none
pub numbers_first : (i n : ℕ) → i < n → numbers_from i (n - i) ≡ i ∷ numbers_from (i + 1) (n - (i + 1))
numbers_first i n h =
    let one_more : n - i ≡ suc (n - (i + 1)) = omega (arith, h) in
    let next : suc i ≡ i + 1 = omega arith in
    ap (numbers_from i) one_more ∙ ap (λ j. i ∷ numbers_from j (n - (i + 1))) next

pub numbers_none : (i n : ℕ) → n ≤ i → numbers_from i (n - i) ≡ []
numbers_none i n h =
    let none : n - i ≡ 0 = omega (arith, h) in
    ap (numbers_from i) none

pub ruleset numbers_left = (numbers_first, numbers_none)

-- ---- the items of a set among the numbers
