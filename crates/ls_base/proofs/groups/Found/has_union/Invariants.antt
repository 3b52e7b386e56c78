use Rattle.ls_base.proofs.Vocabulary.{len}
use Rattle.ls_base.proofs.Grouped.{Covers}
use Rattle.ls_base.proofs.groups.Found.has_union.Given as goal

abbrev pub invariant-loop-item : goal.invariant-loop-item
invariant-loop-item l = Covers l.self.sets.items l.set l.union l.left

abbrev pub decreases-loop-item : goal.decreases-loop-item
decreases-loop-item l = len l.left
