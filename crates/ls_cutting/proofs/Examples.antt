-- Examples: the words of lines.
use Rattle.ls_cutting.proofs.Vocabulary.{◌∷◌, ◌≡◌, [], codes, refl, words}

commas_and_colons : words (codes "yes a,b:c\r") ≡ codes "yes" ∷ codes "a" ∷ codes "b" ∷ codes ":" ∷ codes "c" ∷ []
unfolding words
commas_and_colons = refl

note : words (codes " \t# note") ≡ []
unfolding words
note = refl
