use Rattle.ls_drill.proofs.CountedQueries.{IsCounted}
use Rattle.ls_drill.specs.Askings.{IsAsked}
use Rattle.ls_drill.proofs.counting.count_filled.Given as goal

abbrev pub invariant-loop : goal.invariant-loop
invariant-loop g l = record {
  counted : IsCounted l.inquiry l.counter l.last l.filled.all l.filled.yes l.filled.no;
  asked : IsAsked l.answers l.asked;
}
