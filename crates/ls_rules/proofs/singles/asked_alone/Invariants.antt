use Rattle.ls_rules.proofs.Vocabulary.{◌≡◌, asked_alone, drop, union}
use Rattle.ls_rules.proofs.singles.asked_alone.Given as goal

-- with what is left to look at it gives the whole
abbrev pub invariant-loop-rule : goal.invariant-loop-rule
invariant-loop-rule l = union l.asked (asked_alone (drop l.rule-index l.rules) l.fn.i) ≡ asked_alone l.rules l.fn.i
