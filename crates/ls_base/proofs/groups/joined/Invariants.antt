use Rattle.ls_base.proofs.Grouped.{IsJoined}
use Rattle.ls_base.proofs.groups.joined.Given as goal

abbrev pub invariant-loop-set : goal.invariant-loop-set
invariant-loop-set l = IsJoined l.fn.first l.joined l.s l.sets l.set-index
