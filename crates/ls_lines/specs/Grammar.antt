-- The lines of a form, by rules. (The law `forms_are_exact` says that `cut` and `is_begun` tell
-- them.)
use Rattle.std.specs.Prelude.{◌≡◌, true, List, [], ◌∷◌, ◌++◌}
use Rattle.ls_cutting.specs.Lines.{Text}
use Rattle.ls_lines.specs.Commands.{fits}
use Rattle.ls_cutting.specs.declared.kind.Kind.{Kind}
use Rattle.ls_lines.specs.declared.keyword.Keyword.{Keyword}
use Rattle.ls_lines.specs.declared.part.Part.{Part}
use Rattle.ls_lines.specs.declared.part.Part.TheVariants.{Fixed, One, Many}

-- a fixed word and one word of a kind stand for one word, and any number of words of a kind for no
-- word or one more
pub data IsLine : List Part → List Text → Type 0 where
  done : IsLine [] []
  fixed : {v : Keyword} {w : Text} {ps : List Part} {ws : List Text}
      → fits (Fixed v) w ≡ true → IsLine ps ws → IsLine (Fixed v ∷ ps) (w ∷ ws)
  one : {k : Kind} {w : Text} {ps : List Part} {ws : List Text}
      → fits (One k) w ≡ true → IsLine ps ws → IsLine (One k ∷ ps) (w ∷ ws)
  no_more : {k : Kind} {ps : List Part} {ws : List Text}
      → IsLine ps ws → IsLine (Many k ∷ ps) ws
  one_more : {k : Kind} {w : Text} {ps : List Part} {ws : List Text}
      → fits (Many k) w ≡ true → IsLine (Many k ∷ ps) ws → IsLine (Many k ∷ ps) (w ∷ ws)

-- some more words make the words a line
abbrev pub Completes : List Part → List Text → Type 0
Completes ps ws = (more : List Text) × IsLine ps (ws ++ more)
