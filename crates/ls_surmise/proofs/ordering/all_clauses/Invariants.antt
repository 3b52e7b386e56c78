use Rattle.ls_surmise.proofs.Vocabulary.{◌≡◌, all_clauses, take}
use Rattle.ls_surmise.proofs.ordering.all_clauses.Given as goal

abbrev pub invariant-loop-own : goal.invariant-loop-own
invariant-loop-own l = l.all.items ≡ all_clauses (take l.own-index l.clauses)
