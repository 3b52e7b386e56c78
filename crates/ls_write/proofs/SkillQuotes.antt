-- Names of skills in quotes.
use Rattle.ls_write.proofs.Vocabulary.{◌%◌, ◌++◌, ◌+◌, ◌/◌, ◌∷◌, ◌≡◌, Text, ℕ, [], ap, arith}
use Rattle.ls_write.proofs.Vocabulary.{escape, escape_byte, nat_tests, quoted, refl, sym}
use Rattle.ls_room.proofs.Quotes.{plain-next}
use Rattle.ls_files.specs.SkillFiles.{skill_name}

-- the letter and the digits of a skill stand for themselves
plain-skill : (number : ℕ) → escape (skill_name number) ≡ skill_name number
unfolding skill_name escape_byte
plain-skill number =
    plain-next
    115
    _ refl
    (digit (number / 1000) (digit (number / 100) (digit (number / 10) (digit (number / 1) refl))))
  where
    digit : (m : ℕ) {w : Text} → escape w ≡ w → escape ((48 + m % 10) ∷ w) ≡ (48 + m % 10) ∷ w
    digit m {w} rest =
        plain-next
        (48 + m % 10)
        w (let plain : escape_byte (48 + m % 10) ≡ (48 + m % 10)
        ∷ [] = grind (arith, nat_tests) in plain) rest

pub quotes-skill : (number a b c d : ℕ) → a ≡ 48 + number / 1000 % 10 → b ≡ 48 + number / 100 % 10
    → c ≡ 48 + number / 10 % 10 → d ≡ 48 + number % 10
    → 34 ∷ 115 ∷ a ∷ b ∷ c ∷ d ∷ 34 ∷ [] ≡ quoted (skill_name number)
unfolding skill_name
quotes-skill number a b c d ea eb ec ed =
    let last : d ≡ 48 + number / 1 % 10 = omega (arith, ed) in
    rw (ea, eb, ec, last) (sym (ap (λ w. 34 ∷ (w ++ 34 ∷ [])) (plain-skill number)))
