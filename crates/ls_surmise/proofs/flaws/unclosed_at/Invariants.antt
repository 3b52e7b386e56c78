use Rattle.ls_surmise.proofs.Vocabulary.{◌≡◌, find, has_clause_within, items, not}
use Rattle.ls_surmise.proofs.flaws.unclosed_at.Given as goal

abbrev pub invariant-loop-r : goal.invariant-loop-r
invariant-loop-r l = find (λ r. not (has_clause_within l.clauses r l.c)) (items l.r-iterator) ≡ find (λ r. not (has_clause_within l.clauses r l.c)) (items l.c)
