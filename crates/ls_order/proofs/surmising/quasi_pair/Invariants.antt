use Rattle.std.proofs.Common.{length}
use Rattle.ls_order.proofs.Surmised.{FoundPair, is_quasi}
use Rattle.ls_order.proofs.surmising.quasi_pair.Given as goal

abbrev pub invariant-loop-first : goal.invariant-loop-first
invariant-loop-first l = FoundPair (is_quasi l.below) l.first (length l.below)
