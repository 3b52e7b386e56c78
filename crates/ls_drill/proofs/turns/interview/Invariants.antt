use Rattle.ls_drill.proofs.TurnsTaken.{IsAtTurn}
use Rattle.ls_drill.proofs.turns.interview.Given as goal

abbrev pub invariant-loop : goal.invariant-loop
invariant-loop g l = IsAtTurn l.n l.hidden.number l.counter l.inquiry
