-- What stands at a part of a form.
use Rattle.std.specs.Prelude.{List, [], ◌∷◌, ℕ, Bool, flat_map, ◌++◌, codes, decimal, if◌then◌else◌}
use Rattle.ls_cutting.specs.Lines.{Text}
use Rattle.ls_lines.specs.declared.operand.Operand.{Operand}
use Rattle.ls_lines.specs.declared.operand.Operand.TheVariants as held

-- what a command has at a part of its form that is no fixed word: a word, words, a number, or
-- whether a reply is right
pub data Filling : Type 0 where
  Word : Text → Filling
  Words : List Text → Filling
  Number : ℕ → Filling
  Right : Bool → Filling

-- its words
abbrev pub words_of : Filling → List Text
words_of (Word word) = word ∷ []
words_of (Words words) = words
words_of (Number n) = decimal n ∷ []
words_of (Right right) = (if right then codes "right" else codes "wrong") ∷ []

-- the same, as the code holds it
abbrev pub filling : Operand → Filling
filling (held.One word) = Word word.now
filling (held.Many words) = Words words.now
filling (held.Count n) = Number n
filling (held.Number n) = Number n
filling (held.Right right) = Right right

abbrev pub shown : Operand → List Text
shown operand = words_of (filling operand)

-- words, each with a space behind it
abbrev pub with_spaces : List Text → List ℕ
with_spaces ws = flat_map (λ w. w ++ 32 ∷ []) ws
