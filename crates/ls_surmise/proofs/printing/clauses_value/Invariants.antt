use Rattle.ls_surmise.proofs.Vocabulary.{◌≡◌, clause_value, map, take, view}
use Rattle.ls_surmise.proofs.printing.clauses_value.Given as goal

abbrev pub invariant-loop-clause : goal.invariant-loop-clause
invariant-loop-clause l = map view l.values.items ≡ map (clause_value l.d) (take l.clause-index l.clauses)
