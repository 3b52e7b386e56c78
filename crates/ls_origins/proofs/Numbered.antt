-- All of a list of numbers.
use Rattle.std.proofs.Common.{ℕ, zero, suc, ◌+◌, ◌<◌, ◌≤◌, ◌≡◌, inl, inr, Bool, true, refl, ap, ◌∙◌}
use Rattle.std.proofs.Common.{arith}
use Rattle.std.specs.List.{list_all}
use Rattle.std.proofs.lemmas.Bool.{cases_eq, and_parts, and_from}
use Rattle.ls_set.specs.ItemSet.{numbers_from}

pub every-number : (p : ℕ → Bool) (i m j : ℕ) → i ≤ j → j < i + m → list_all p (numbers_from i m)
    ≡ true → p j ≡ true
every-number p i zero j a b h = absurd (omega arith)
every-number p i (suc m) j a b h =
    let x = and_parts (p i) (list_all p (numbers_from (suc i) m)) h in
    elim (cases_eq j i) [
      | inl e ↦ ap p e ∙ x.0
      | inr d ↦ every-number p (suc i) m j (omega arith) (omega arith) x.1
    ]

pub number-every : (p : ℕ → Bool) (i m : ℕ) → ((j : ℕ) → j < i + m → p j ≡ true)
    → list_all p (numbers_from i m) ≡ true
number-every p i zero h = refl
number-every p i (suc m) h =
    and_from (p i) (list_all p (numbers_from (suc i) m)) (h i (omega arith))
    (number-every p (suc i) m (λ j l. h j (omega arith)))
