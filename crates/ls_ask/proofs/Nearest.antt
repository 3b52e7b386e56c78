-- The least of the first numbers whose value is least.
use Rattle.std.proofs.Common.{ℕ, zero, suc, ◌+◌, ◌<◌, ◌≤◌, ◌≡◌, Bool, true, false, nat_le, Some, refl, arith}
use Rattle.std.specs.List.{list_all}
use Rattle.std.proofs.lemmas.Bool.Decides.{nat_tests}
use Rattle.ls_set.specs.{numbers_from}
use Rattle.ls_set.proofs.Ascending.{find_first}
use Rattle.ls_theory.specs.{first_least}

-- a test that each number passes
all-pass : (p : ℕ → Bool) (i m : ℕ) → ((j : ℕ) → i ≤ j → j < i + m → p j ≡ true) → list_all p (numbers_from i m) ≡ true
all-pass p i zero h = refl
all-pass p i (suc m) h = rw (h i (omega arith) (omega arith)) (all-pass p (suc i) m (λ j low high. h j (omega arith) (omega arith)))

-- a test that one number fails
one-fails : (p : ℕ → Bool) (i m b : ℕ) → i ≤ b → b < i + m → p b ≡ false → list_all p (numbers_from i m) ≡ false
one-fails p i zero b low high e = absurd (omega arith)
one-fails p i (suc m) b low high e = grind (arith, one-fails p (suc i) m b, e)

pub least-found : (value : ℕ → ℕ) (n b : ℕ) → b < n → ((j : ℕ) → j < n → value b ≤ value j) → ((j : ℕ) → j < b → value b < value j) → first_least value (numbers_from 0 n) ≡ Some b
least-found value n b h least before =
    find_first (λ x. list_all (λ y. nat_le (value x) (value y)) (numbers_from 0 n)) 0 n b (omega arith) (omega arith)
    (all-pass (λ y. nat_le (value b) (value y)) 0 n (λ j low high. let e : value b ≤ value j = least j (omega arith) in grind (arith, nat_tests)))
    (λ j low high. one-fails (λ y. nat_le (value j) (value y)) 0 n b (omega arith) (omega arith) (let e : value b < value j = before j high in grind (arith, nat_tests)))
