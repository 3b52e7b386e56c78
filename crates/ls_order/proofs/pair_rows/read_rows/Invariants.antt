use Rattle.std.proofs.Common.{◌+◌, ◌≤◌, length}
use Rattle.ls_order.proofs.Lines.{IsReading, left}
use Rattle.ls_order.proofs.pair_rows.read_rows.Given as goal

abbrev pub invariant-loop-text : goal.invariant-loop-text
invariant-loop-text l = record {
  so_far : IsReading l.d l.bytes l.rows.items l.row l.text;
  room : l.row + left l.text ≤ length l.bytes + 2;
}

abbrev pub decreases-loop-text : goal.decreases-loop-text
decreases-loop-text l = left l.text
