-- Printing a command, by the table of forms.
use Rattle.std.specs.Prelude.{ℕ, Bool, true, false, ◌&&◌, nat_le, List, [], ◌∷◌, map, flat_map}
use Rattle.std.specs.List.{list_all}
use Rattle.ls_cutting.specs.Lines.{Text}
use Rattle.ls_cutting.specs.Kinds.{is_of, most_counted, greatest_number}
use Rattle.ls_lines.specs.Spelling.{spelling}
use Rattle.ls_lines.specs.Forms.{parts, spelled_as}
use Rattle.ls_lines.specs.Operands.{Filling, Word, Words, Number, Right, words_of}
use Rattle.ls_cutting.specs.declared.kind.Kind.TheVariants as kind
use Rattle.ls_lines.specs.declared.part.Part.{Part}
use Rattle.ls_lines.specs.declared.part.Part.TheVariants.{Fixed, One, Many}
use Rattle.ls_lines.specs.declared.command.Command.{Command}

-- the words at each part: a fixed word stands for itself, and the other parts have the given words
-- in turn
unfoldable pub laid_out : List Part → List (List Text) → List (List Text)
laid_out [] given = []
laid_out (Fixed v ∷ ps) given = (spelling v ∷ []) ∷ laid_out ps given
laid_out (p ∷ ps) [] = [] ∷ laid_out ps []
laid_out (p ∷ ps) (ws ∷ given) = ws ∷ laid_out ps given

-- the words of the command
unfoldable pub spelled : Command → List Text
spelled c = let s = spelled_as c in flat_map (λ ws. ws) (laid_out (parts s.0) (map words_of s.1))

-- whether it can stand at the part
abbrev pub stands_at : Part → Filling → Bool
stands_at (One k) (Word w) = is_of k w
stands_at (Many k) (Words ws) = list_all (is_of k) ws
stands_at (One kind.Count) (Number n) = nat_le n most_counted
stands_at (One kind.Number) (Number n) = nat_le n greatest_number
stands_at (One kind.Right) (Right right) = true
stands_at part filling = false

-- whether each can stand at its part, where the fixed words have none
abbrev pub all_stand : List Part → List Filling → Bool
all_stand [] [] = true
all_stand (Fixed v ∷ ps) fillings = all_stand ps fillings
all_stand (part ∷ ps) (filling ∷ fillings) = stands_at part filling && all_stand ps fillings
all_stand ps fillings = false

-- whether the words, numbers and counts of the command can stand at the parts of its form
unfoldable pub is_plain : Command → Bool
is_plain c = let s = spelled_as c in all_stand (parts s.0) s.1
