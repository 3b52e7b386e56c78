use Rattle.ls_rules.proofs.Vocabulary.{len}
use Rattle.ls_rules.proofs.Begun.{Started}
use Rattle.ls_rules.proofs.waking.begin.Given as goal

abbrev pub invariant-loop-i : goal.invariant-loop-i
invariant-loop-i l = Started l.rules l.fn.set l.left l.round

abbrev pub decreases-loop-i : goal.decreases-loop-i
decreases-loop-i l = len l.left
