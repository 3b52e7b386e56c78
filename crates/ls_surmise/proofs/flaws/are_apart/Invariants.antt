use Rattle.ls_surmise.proofs.Vocabulary.{◌<◌, ◌≡◌, ℕ, are_comparable, empty, false, get_or, length}
use Rattle.ls_surmise.proofs.flaws.are_apart.Given as goal

abbrev pub invariant-loop-i : goal.invariant-loop-i
invariant-loop-i l = (i j : ℕ) → i < j → j < length l.sets → i < l.i → are_comparable (get_or l.sets i empty) (get_or l.sets j empty) ≡ false
