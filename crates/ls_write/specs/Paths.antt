-- Learning paths: those that come after one, and the front of one with its text.
use Rattle.std.specs.Prelude.{◌≡◌, ℕ, List, [], filter, Option}
use Rattle.ls_lists.specs.Lists.{spaced}
use Rattle.ls_set.specs.{Items}
use Rattle.ls_theory.specs.{comes_after, is_lex_before, paths}
use Rattle.ls_cutting.specs.{Text}
use Rattle.ls_domain.specs.Texts.{name_of}

-- the learning paths that come after the order, or all of them
abbrev pub paths_after : ℕ → List Items → Option (List ℕ) → List (List ℕ)
paths_after n f after = filter (comes_after is_lex_before after) (paths n f)

-- the first items of an order, and a text
pub record PathFront : Type 0 where
  pub front : List ℕ
  pub text : Text

-- no item, and no text
abbrev pub no_front : PathFront
no_front = record { front = []; text = [] }

-- the text is that of the items: the name of each, behind a space
abbrev pub IsTextOf : List Text → PathFront → Type 0
IsTextOf names path = path.text ≡ spaced (name_of names) path.front
