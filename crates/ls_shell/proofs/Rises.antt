-- Marks are no more than the count of faults rose.
use Rattle.ls_shell.proofs.Vocabulary.{◌++◌, ◌+◌, ◌-◌, ◌<◌, ◌^◌, ◌∷◌, ◌≡◌, ◌≤◌, Bool, FewMarks, List, Marked, Rose, ℕ, [], arith, bare_lines, count_marks, count_marks-cons, count_marks-snoc, false, inl, inr, mark_count, marked, none-marked, refl, true, unmarked}
use Rattle.std.proofs.lemmas.Bool.{cases_lt}

mark-cause : (failed : Bool) (then now : ℕ) → then ≤ now → (failed ≡ true → Rose then now) → now < 2 ^ 64 - 1 → then + mark_count failed ≤ now
mark-cause true then now later cause below = let rose : Rose then now = cause refl in omega arith
mark-cause false then now later cause below = omega arith

-- a line more has no more marks than the count rose
pub few-snoc : (ls : List Marked) (l : Marked) (before then now : ℕ) → then ≤ now → (l.failed ≡ true → Rose then now) → FewMarks ls before then → FewMarks (ls ++ l ∷ []) before now
few-snoc ls l before then now later cause few = λ below.
    let earlier : before + count_marks ls ≤ then = few (omega arith) in
    omega (arith, count_marks-snoc ls l, mark-cause l.failed then now later cause below)

pub few-none : (now : ℕ) → FewMarks [] now now
few-none now = λ below. omega arith

-- one line that is not marked
pub few-one : (line : List ℕ) (now : ℕ) → FewMarks (marked line false ∷ []) now now
few-one line now = λ below. omega (arith, count_marks-cons (marked line false) [])

-- where the count did not rise no line is marked
pub no_marks : (ls : List Marked) (before now : ℕ) → FewMarks ls before now → (Rose before now → ⊥) → ls ≡ unmarked (bare_lines ls)
no_marks ls before now few quiet =
    let low : now < 2 ^ 64 - 1 = elim (cases_lt now (2 ^ 64 - 1)) [ inl l ↦ l | inr g ↦ absurd (quiet (omega arith)) ] in
    let same : now ≤ before = elim (cases_lt before now) [ inl l ↦ absurd (quiet (omega arith)) | inr g ↦ g ] in
    let marks : before + count_marks ls ≤ now = few low in
    none-marked ls (omega arith)
