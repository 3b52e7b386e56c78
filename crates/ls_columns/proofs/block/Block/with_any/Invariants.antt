use Rattle.ls_columns.proofs.Vocabulary.{len}
use Rattle.ls_columns.proofs.Columned.{Collects}
use Rattle.ls_columns.proofs.block.Block.with_any.Given as goal

abbrev pub invariant-loop-i : goal.invariant-loop-i
invariant-loop-i l = Collects l.self l.fn.items l.left l.places

abbrev pub decreases-loop-i : goal.decreases-loop-i
decreases-loop-i l = len l.left
