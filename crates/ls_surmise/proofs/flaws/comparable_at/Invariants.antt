use Rattle.ls_surmise.proofs.Vocabulary.{are_comparable, clause_at, clauses_of, find, length, places_after}
use Rattle.ls_surmise.proofs.Firsts.{FoundFrom}
use Rattle.ls_surmise.proofs.flaws.comparable_at.Given as goal

abbrev pub invariant-loop-j : goal.invariant-loop-j
invariant-loop-j l = FoundFrom (λ j. are_comparable (clause_at l.clauses l.q l.i) (clause_at l.clauses l.q j)) l.j (length (clauses_of l.clauses l.q)) (find (λ j. are_comparable (clause_at l.clauses l.q l.i) (clause_at l.clauses l.q j)) (places_after l.clauses l.q l.i))
