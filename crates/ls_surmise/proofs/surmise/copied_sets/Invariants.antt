use Rattle.ls_surmise.proofs.Vocabulary.{◌≡◌, take}
use Rattle.ls_surmise.proofs.surmise.copied_sets.Given as goal

abbrev pub invariant-loop-set : goal.invariant-loop-set
invariant-loop-set l = l.copied ≡ take l.set-index l.set-items
