use Rattle.ls_cutting.proofs.Vocabulary.{◌++◌, ◌≡◌, ◌≤◌, drop, length, runs, slice_range}
use Rattle.ls_cutting.proofs.Runs.{runs_from}
use Rattle.ls_cutting.proofs.token.push_runs.Given as goal

abbrev pub invariant-loop-i : goal.invariant-loop-i
invariant-loop-i l = record {
  in_order : l.start ≤ l.i;
  few : length l.tokens.items ≤ l.start;
  runs_on : l.tokens.items ++ runs_from (slice_range l.line l.start l.i) (drop l.i l.line) ≡ runs l.line;
}
