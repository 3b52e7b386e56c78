-- Two fringes as text, and what a line asks for that has them.
use Rattle.std.specs.Prelude.{◌≡◌, List, ◌++◌, Some, None, codes}
use Rattle.std.specs.List.{join_with_byte}
use Rattle.ls_theory.specs.declared.fringe_pair.FringePair.{FringePair}
use Rattle.ls_lines.specs.{Text, command_of, words}
use Rattle.ls_lines.specs.declared.command.Command.TheVariants.{View}
use Rattle.ls_lines.specs.declared.view.ViewCommand.TheVariants.{StateOf}
use Rattle.ls_domain.specs.Texts.{fringe_words}
use Rattle.ls_domain.specs.Meanings.{items_of, first_unnamed}

-- the names of the inner fringe, a bar, and the names of the outer one, joined by single spaces
abbrev pub fringe_text : List Text → FringePair → Text
fringe_text names x = join_with_byte 32 (fringe_words names x.inner x.outer)

-- the line that asks for the state with the fringes
abbrev pub state_of_line : List Text → FringePair → Text
state_of_line names x = codes "state-of " ++ fringe_text names x

-- the line is the command that asks for the state with the fringes, and each of its names is known
pub record AsksFor (names : List Text) (line : Text) (x : FringePair) : Type 0 where
  pub inner : List Text
  pub outer : List Text
  pub command : command_of (words line) ≡ Some (View (StateOf inner outer))
  pub inner_known : first_unnamed names inner ≡ None
  pub outer_known : first_unnamed names outer ≡ None
  pub inner_set : items_of names inner ≡ x.inner
  pub outer_set : items_of names outer ≡ x.outer
