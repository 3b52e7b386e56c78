-- Searches and lists over numbers, by what is left of them.
use Rattle.std.proofs.Common.{ℕ, suc, ◌+◌, ◌-◌, ◌<◌, ◌≡◌, Bool, false, ◌∷◌, find}
use Rattle.std.proofs.Common.{refl, sym, ap, ◌∙◌, arith}
use Rattle.ls_set.specs.ItemSet.{numbers_from}

pub numbers-next : (j end : ℕ) → j < end → numbers_from j (end - j)
    ≡ j ∷ numbers_from (j + 1) (end - (j + 1))
numbers-next j end l =
    let e : end - j ≡ suc (end - (j + 1)) = omega arith in
    let s : suc j ≡ j + 1 = omega arith in
    ap (numbers_from j) e ∙ ap (λ k. j ∷ numbers_from k (end - (j + 1))) s

-- a number that fails is passed over
pub passed-next : (p : ℕ → Bool) (j end : ℕ) → j < end → p j ≡ false
    → find p (numbers_from j (end - j)) ≡ find p (numbers_from (j + 1) (end - (j + 1)))
passed-next p j end l e =
    let rest = numbers_from (j + 1) (end - (j + 1)) in
    let step : find p (j ∷ rest) ≡ find p rest = rw e refl in
    ap (find p) (numbers-next j end l) ∙ step

-- what is found from j on is what is found in all
abbrev pub FoundFrom : (ℕ → Bool) → ℕ → ℕ → Type 0
FoundFrom p j end = find p (numbers_from j (end - j)) ≡ find p (numbers_from 0 end)

pub found-next : (p : ℕ → Bool) (j end : ℕ) → j < end → p j ≡ false → FoundFrom p j end
    → FoundFrom p (j + 1) end
found-next p j end l e h = sym (passed-next p j end l e) ∙ h
