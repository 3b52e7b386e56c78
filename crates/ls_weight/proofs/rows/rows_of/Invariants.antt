use Rattle.ls_weight.proofs.Vocabulary.{AreRows, take}
use Rattle.ls_weight.proofs.rows.rows_of.Given as goal

abbrev pub invariant-loop-state : goal.invariant-loop-state
invariant-loop-state l = AreRows l.n (take l.state-index l.states) l.bytes.items
