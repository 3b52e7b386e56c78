use Rattle.std.proofs.Common.{◌≡◌, take}
use Rattle.ls_origins.specs.Relations.{first_clauses}
use Rattle.ls_order.proofs.surmising.first_clauses.Given as goal

abbrev pub invariant-loop-item : goal.invariant-loop-item
invariant-loop-item l = l.below.items ≡ first_clauses (take l.item l.s.clauses)
