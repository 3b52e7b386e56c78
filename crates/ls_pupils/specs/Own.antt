-- Lists in which each element has a name of its own.
use Rattle.std.specs.Prelude.{ℕ, Bool, true, not, ◌&&◌, List, [], ◌∷◌, bytes_eq}
use Rattle.std.specs.List.{list_any}

-- whether the element has the name
abbrev pub is_called : {X : Type 0} → (X → List ℕ) → List ℕ → X → Bool
is_called name_of name x = bytes_eq (name_of x) name

-- no two have the same name
abbrev pub have_own_names : {X : Type 0} → (X → List ℕ) → List X → Bool
have_own_names name_of [] = true
have_own_names name_of (x ∷ xs) =
    not (list_any (is_called name_of (name_of x)) xs) && have_own_names name_of xs
