use Rattle.ls_rules.proofs.Vocabulary.{◌≡◌, barred, drop, minus, rules_at}
use Rattle.ls_rules.proofs.barring.without_barred.Given as goal

-- what is left to look at gives the whole
abbrev pub invariant-loop-place : goal.invariant-loop-place
invariant-loop-place l = minus l.left (barred (rules_at l.rules (drop l.place-index l.places)) l.set) ≡ minus l.fn.items (barred (rules_at l.rules l.places) l.set)
