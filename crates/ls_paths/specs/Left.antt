-- The learning paths that a walk has still to give.
use Rattle.std.specs.Prelude.{ℕ, Bool, true, false, List, [], ◌∷◌, filter}
use Rattle.ls_set.specs.{Items}
use Rattle.ls_theory.specs.{is_lex_before, paths}

-- the path at which the walk stands, if it stands at one, and those after it
abbrev pub paths_left : ℕ → List Items → Bool → List ℕ → List (List ℕ)
paths_left n f false order = []
paths_left n f true order = order ∷ filter (is_lex_before order) (paths n f)
