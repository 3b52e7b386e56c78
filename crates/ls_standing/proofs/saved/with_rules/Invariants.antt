use Rattle.ls_standing.proofs.Vocabulary.{◌≡◌, take}
use Rattle.ls_standing.proofs.saved.with_rules.Given as goal

-- the queries so far are rules
abbrev pub invariant-loop-rule : goal.invariant-loop-rule
invariant-loop-rule l = record {
  inner : l.family.inner ≡ l.fn.first;
  rules : l.family.rules ≡ take l.rule-index l.rules;
}
