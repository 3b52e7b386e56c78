use Rattle.ls_rules.proofs.Vocabulary.{◌≡◌, ℕ, cond, get_or, lower, ltb}
use Rattle.ls_rules.proofs.places.lower_each.Given as goal

-- the places before the index are lowered
abbrev pub invariant-loop-p : goal.invariant-loop-p
invariant-loop-p l = (k : ℕ) → get_or l.list k 0 ≡ cond (ltb k l.p-index) (lower l.place (get_or l.initial.list k 0)) (get_or l.initial.list k 0)
