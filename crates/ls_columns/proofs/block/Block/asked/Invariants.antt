use Rattle.ls_columns.proofs.Vocabulary.{len}
use Rattle.ls_columns.proofs.Asked.{Asking}
use Rattle.ls_columns.proofs.block.Block.asked.Given as goal

abbrev pub invariant-loop-place : goal.invariant-loop-place
invariant-loop-place l = Asking l.self l.fn.places l.kept l.left l.asked

abbrev pub decreases-loop-place : goal.decreases-loop-place
decreases-loop-place l = len l.left
