use Rattle.ls_standing.proofs.Vocabulary.{◌≡◌, compat, take}
use Rattle.ls_standing.proofs.few_rules.leading.Given as goal

-- the rules that were taken leave the sets that those so far leave
abbrev pub invariant-loop-rule : goal.invariant-loop-rule
invariant-loop-rule g l = record {
  inner : l.family.inner ≡ l.fn.first;
  members : compat l.fn.first.item_count l.fn.first.start l.family.rules ≡ compat l.fn.first.item_count l.fn.first.start (take l.rule-index l.rule-items);
}
