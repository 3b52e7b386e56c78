use Rattle.ls_rules.proofs.Vocabulary.{◌≡◌, drop, fold, look, rules_at}
use Rattle.ls_rules.proofs.waking.look_at.Given as goal

-- what is left to look at gives the whole
abbrev pub invariant-loop-place : goal.invariant-loop-place
invariant-loop-place l = fold look l.round (rules_at l.rules (drop l.place-index l.places)) ≡ fold look l.fn.round (rules_at l.rules l.places)
