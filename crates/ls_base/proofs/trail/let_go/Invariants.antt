use Rattle.ls_base.proofs.Vocabulary.{length}
use Rattle.ls_base.proofs.Trails.{IsLetGo}
use Rattle.ls_base.proofs.trail.let_go.Given as goal

abbrev pub invariant-loop-kept : goal.invariant-loop-kept
invariant-loop-kept l = IsLetGo l.initial.entries.items l.entries.items

abbrev pub decreases-loop-kept : goal.decreases-loop-kept
decreases-loop-kept l = length l.entries.items
