use Rattle.ls_surmise.proofs.Vocabulary.{drop, is_some, read_clause, read_list, view}
use Rattle.ls_surmise.proofs.Walks.{IsReadable}
use Rattle.ls_surmise.proofs.reading.are_known_clauses.Given as goal

abbrev pub invariant-loop-entry : goal.invariant-loop-entry
invariant-loop-entry l = IsReadable (read_clause l.d) (drop l.entry-index l.entry-items) (is_some (read_list (read_clause l.d) (view l.value)))
