use Rattle.ls_infer.proofs.Vocabulary.{AreStates, Items, List}
use Rattle.ls_infer.proofs.witnesses.no_witnesses.Given as goal

-- no state is kept yet
abbrev pub invariant-loop-item : goal.invariant-loop-item
invariant-loop-item l = (f : List Items) → AreStates f l.kept.items
