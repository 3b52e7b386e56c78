use Rattle.ls_surmise.proofs.Vocabulary.{as_str, drop, is_some, read_list, view}
use Rattle.ls_surmise.proofs.Walks.{IsReadable}
use Rattle.ls_surmise.proofs.reading.is_clause_list.Given as goal

abbrev pub invariant-loop-entry : goal.invariant-loop-entry
invariant-loop-entry l = IsReadable (read_list as_str) (drop l.entry-index l.entry-items) (is_some (read_list (read_list as_str) (view l.value)))
