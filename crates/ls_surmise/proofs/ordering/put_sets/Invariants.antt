use Rattle.ls_surmise.proofs.Vocabulary.{◌≡◌, take}
use Rattle.ls_surmise.proofs.ordering.put_sets.Given as goal

abbrev pub invariant-loop-set : goal.invariant-loop-set
invariant-loop-set l = l.list ≡ take l.set-index l.set-items
