-- An example of the text of a surmise function: the item b comes first, and the key a.
use Rattle.ls_surmise.proofs.Vocabulary.{◌∷◌, ◌≡◌, Items, List, Text, ℕ, [], codes, has, members_from, names_of_set, refl, surmise_text}
use Rattle.json.specs.Print.{escape_byte}

abbrev set : ℕ → Items
set digits = record { digits = digits }

abbrev names : List Text
names = codes "b" ∷ codes "a" ∷ []

keys_in_order : surmise_text names ((set 1 ∷ []) ∷ (set 3 ∷ []) ∷ []) ≡ codes "{\"a\":[[\"b\",\"a\"]],\"b\":[[\"b\"]]}"
unfolding surmise_text members_from names_of_set has escape_byte
keys_in_order = refl
