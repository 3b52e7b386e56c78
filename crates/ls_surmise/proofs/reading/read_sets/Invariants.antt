use Rattle.ls_surmise.proofs.Vocabulary.{drop, read_clause, read_sets, view}
use Rattle.ls_surmise.proofs.Walks.{IsRead}
use Rattle.ls_surmise.proofs.reading.read_sets.Given as goal

abbrev pub invariant-loop-entry : goal.invariant-loop-entry
invariant-loop-entry l = IsRead (read_clause l.d) l.sets (drop l.entry-index l.entry-items) (read_sets l.d (view l.value))
