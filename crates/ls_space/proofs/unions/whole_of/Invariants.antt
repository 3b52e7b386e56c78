use Rattle.ls_space.proofs.Vocabulary.{◌≡◌, IsWithin, Items, is_among, take, true}
use Rattle.ls_space.proofs.unions.whole_of.Given as goal

abbrev pub invariant-loop-set : goal.invariant-loop-set
invariant-loop-set l = (b : Items) → is_among (take l.set-index l.sets) b ≡ true → IsWithin b l.whole
