use Rattle.std.proofs.Common.{◌≡◌, replicate}
use Rattle.ls_set.specs.ItemSet.{empty}
use Rattle.ls_order.proofs.pair_rows.no_pairs.Given as goal

abbrev pub invariant-loop : goal.invariant-loop
invariant-loop l = l.rows.items ≡ replicate l.counter empty
