use Rattle.ls_base.proofs.OwnItems.{AreSingles}
use Rattle.ls_base.proofs.own.single_items.Given as goal

abbrev pub invariant-loop-set : goal.invariant-loop-set
invariant-loop-set l = AreSingles l.singles l.sets
