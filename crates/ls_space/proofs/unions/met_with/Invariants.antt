use Rattle.ls_space.proofs.Vocabulary.{ComesWith, take}
use Rattle.ls_space.proofs.unions.met_with.Given as goal

abbrev pub invariant-loop-set : goal.invariant-loop-set
invariant-loop-set l = ComesWith (take l.set-index l.sets) l.item l.met
