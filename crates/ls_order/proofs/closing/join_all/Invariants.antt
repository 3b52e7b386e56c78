use Rattle.std.proofs.Common.{◌≡◌, ◌++◌, drop, map, take}
use Rattle.ls_order.specs.Closing.{joined}
use Rattle.ls_order.proofs.closing.join_all.Given as goal

-- those so far have joined, and those that are left are as they were
abbrev pub invariant-loop-row : goal.invariant-loop-row
invariant-loop-row l =
    l.rows ≡ map (joined l.item l.below) (take l.row-index l.initial.rows) ++ drop l.row-index
    l.initial.rows
