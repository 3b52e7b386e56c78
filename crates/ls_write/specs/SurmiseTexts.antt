-- The text of a surmise function, piece by piece. Its items stand in the order of the bytes of
-- their names.
use Rattle.std.specs.Prelude.{ℕ, Bool, false, true, List, [], ◌∷◌, ◌++◌}
use Rattle.json.specs.Print.{quoted}
use Rattle.serde_json.specs.Written.{comma_if}
use Rattle.ls_set.specs.{Items}
use Rattle.ls_theory.specs.{atoms_at}
use Rattle.ls_cutting.specs.{Text}
use Rattle.ls_domain.specs.Texts.{names_of_set}
use Rattle.ls_room.specs.Names.{items_by_name, quoted_name}

-- a text for each, with a comma before it, but for the first where nothing stands before
abbrev pub listed : {X : Type 0} → (X → Text) → Bool → List X → Text
listed text later [] = []
listed text later (x ∷ xs) = comma_if later ++ (text x ++ listed text true xs)

-- a clause: the names of its items in brackets
abbrev pub clause_text : List Text → Items → Text
clause_text names c = 91 ∷ listed quoted false (names_of_set names c) ++ 93 ∷ []

-- clauses in brackets
abbrev pub clauses_text : List Text → List Items → Text
clauses_text names own = 91 ∷ listed (clause_text names) false own ++ 93 ∷ []

-- the name of an item, and the atoms at it
abbrev pub row_text : List Text → List Items → ℕ → Text
row_text names sets i = quoted_name names i ++ 58 ∷ clauses_text names (atoms_at sets i)

-- the rows of all items in braces
unfoldable pub rows_text : List Text → List Items → Text
rows_text names sets = 123 ∷ listed (row_text names sets) false (items_by_name names) ++ 125 ∷ []
