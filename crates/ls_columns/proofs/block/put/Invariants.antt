use Rattle.ls_columns.proofs.Vocabulary.{len}
use Rattle.ls_columns.proofs.Columned.{Putting}
use Rattle.ls_columns.proofs.block.put.Given as goal

abbrev pub invariant-loop-i : goal.invariant-loop-i
invariant-loop-i l = Putting l.initial.columns l.columns l.fn.set l.left l.place

abbrev pub decreases-loop-i : goal.decreases-loop-i
decreases-loop-i l = len l.left
