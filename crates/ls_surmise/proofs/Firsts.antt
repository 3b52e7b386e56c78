-- Searches through numbers, by what is left of them.
use Rattle.ls_surmise.proofs.Vocabulary.{◌+◌, ◌-◌, ◌<◌, ◌∙◌, ◌∷◌, ◌≡◌, Bool, None, Option, ℕ, ap, arith, false, find, first_some, numbers_from, refl, suc, sym}

numbers-next : (j end : ℕ) → j < end → numbers_from j (end - j) ≡ j ∷ numbers_from (j + 1) (end - (j + 1))
numbers-next j end l =
    let e : end - j ≡ suc (end - (j + 1)) = omega arith in
    let s : suc j ≡ j + 1 = omega arith in
    ap (numbers_from j) e ∙ ap (λ k. j ∷ numbers_from k (end - (j + 1))) s

-- ---- the first number that passes

-- what is found from j on is what is found in all
abbrev pub FoundFrom : (ℕ → Bool) → ℕ → ℕ → Option ℕ → Type 0
FoundFrom p j end whole = find p (numbers_from j (end - j)) ≡ whole

pub found-next : (p : ℕ → Bool) (j end : ℕ) (whole : Option ℕ) → j < end → p j ≡ false → FoundFrom p j end whole → FoundFrom p (j + 1) end whole
found-next p j end whole l e h =
    let step : find p (j ∷ numbers_from (j + 1) (end - (j + 1))) ≡ find p (numbers_from (j + 1) (end - (j + 1))) = rw e refl in
    sym step ∙ ap (find p) (sym (numbers-next j end l)) ∙ h

-- ---- the first answer

-- the first answer from j on is the first of all
abbrev pub FirstFrom : {Y : Type 0} → (ℕ → Option Y) → ℕ → ℕ → Option Y → Type 0
FirstFrom answer j end whole = first_some answer (numbers_from j (end - j)) ≡ whole

pub first-next : {Y : Type 0} (answer : ℕ → Option Y) (j end : ℕ) (whole : Option Y) → j < end → answer j ≡ None → FirstFrom answer j end whole → FirstFrom answer (j + 1) end whole
first-next answer j end whole l e h =
    let step : first_some answer (j ∷ numbers_from (j + 1) (end - (j + 1))) ≡ first_some answer (numbers_from (j + 1) (end - (j + 1))) = rw e refl in
    sym step ∙ ap (first_some answer) (sym (numbers-next j end l)) ∙ h
