use Rattle.std.proofs.Common.{◌+◌, length}
use Rattle.ls_order.proofs.Surmised.{IsAfter, is_quasi}
use Rattle.ls_order.proofs.surmising.quasi_after.Given as goal

abbrev pub invariant-loop-second : goal.invariant-loop-second
invariant-loop-second l =
    IsAfter (λ q. is_quasi l.below (l.first, q)) (l.first + 1) l.second (length l.below)
