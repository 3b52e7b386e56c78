use Rattle.ls_base.specs.Groups.{IsGrouped}
use Rattle.ls_base.proofs.Rising.{IsWalked}
use Rattle.ls_base.proofs.reduction.needed_by_size.Given as goal

abbrev pub invariant-loop-set : goal.invariant-loop-set
invariant-loop-set l = record {
  grouped : IsGrouped l.found;
  walked : IsWalked l.found.sets.items l.sets l.set-index;
}
