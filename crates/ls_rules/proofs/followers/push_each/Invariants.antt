use Rattle.ls_rules.proofs.Vocabulary.{items}
use Rattle.ls_rules.proofs.Following.{Pushed}
use Rattle.ls_rules.proofs.followers.push_each.Given as goal

abbrev pub invariant-loop-i : goal.invariant-loop-i
invariant-loop-i l = Pushed l.initial.sets l.sets l.fn.set (items l.i-iterator) l.q
