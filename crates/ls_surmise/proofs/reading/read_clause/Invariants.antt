use Rattle.ls_surmise.proofs.Vocabulary.{drop, read_clause, view}
use Rattle.ls_surmise.proofs.Names.{IsNamed}
use Rattle.ls_surmise.proofs.reading.read_clause.Given as goal

abbrev pub invariant-loop-entry : goal.invariant-loop-entry
invariant-loop-entry l = IsNamed l.d l.set (drop l.entry-index l.entry-items) (read_clause l.d (view l.value))
