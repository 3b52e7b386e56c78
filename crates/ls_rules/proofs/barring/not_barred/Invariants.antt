use Rattle.ls_rules.proofs.Vocabulary.{len}
use Rattle.ls_rules.proofs.Barred.{Barring}
use Rattle.ls_rules.proofs.barring.not_barred.Given as goal

abbrev pub invariant-loop-i : goal.invariant-loop-i
invariant-loop-i l = Barring l.rules l.set l.fn.items l.left l.items

abbrev pub decreases-loop-i : goal.decreases-loop-i
decreases-loop-i l = len l.left
