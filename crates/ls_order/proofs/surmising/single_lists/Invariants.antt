use Rattle.std.proofs.Common.{◌≡◌, take}
use Rattle.ls_origins.specs.Relations.{clauses_below}
use Rattle.ls_order.proofs.surmising.single_lists.Given as goal

abbrev pub invariant-loop-row : goal.invariant-loop-row
invariant-loop-row l = l.lists.items ≡ clauses_below (take l.row-index l.below)
