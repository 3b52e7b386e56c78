use Rattle.ls_columns.proofs.Vocabulary.{len}
use Rattle.ls_columns.proofs.Columned.{Clears}
use Rattle.ls_columns.proofs.block.Block.without_any.Given as goal

abbrev pub invariant-loop-i : goal.invariant-loop-i
invariant-loop-i l = Clears l.self l.fn.places l.fn.items l.left l.rest

abbrev pub decreases-loop-i : goal.decreases-loop-i
decreases-loop-i l = len l.left
