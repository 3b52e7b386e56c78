use Rattle.ls_weight.proofs.Vocabulary.{◌≡◌, ◌≤◌, count_by, has, take}
use Rattle.ls_weight.proofs.rows.count_with.Given as goal

abbrev pub invariant-loop-state : goal.invariant-loop-state
invariant-loop-state l = record {
  counted : l.count ≡ count_by (λ k. has k l.q) (take l.state-index l.states);
  few : l.count ≤ l.state-index;
}
