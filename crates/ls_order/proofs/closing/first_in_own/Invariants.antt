use Rattle.std.proofs.Common.{length}
use Rattle.ls_set.specs.ItemSet.{has}
use Rattle.ls_origins.specs.Relations.{below_of}
use Rattle.ls_order.proofs.Finding.{FoundFrom}
use Rattle.ls_order.proofs.closing.first_in_own.Given as goal

abbrev pub invariant-loop-item : goal.invariant-loop-item
invariant-loop-item l = FoundFrom (λ q. has (below_of l.rows q) q) l.item (length l.rows)
