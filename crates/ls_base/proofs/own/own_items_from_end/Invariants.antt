use Rattle.ls_base.proofs.OwnItems.{IsOwn}
use Rattle.ls_base.proofs.own.own_items_from_end.Given as goal

abbrev pub invariant-loop-place : goal.invariant-loop-place
invariant-loop-place l = IsOwn l.own l.set l.fn.known l.sets l.place
