use Rattle.std.proofs.Common.{length, ltb}
use Rattle.ls_theory.specs.Clauses.{clauses_of}
use Rattle.ls_order.proofs.Finding.{FoundFrom}
use Rattle.ls_order.proofs.surmising.two_clauses.Given as goal

abbrev pub invariant-loop-item : goal.invariant-loop-item
invariant-loop-item l =
    FoundFrom (λ q. ltb 1 (length (clauses_of l.s.clauses q))) l.item l.s.item_count
