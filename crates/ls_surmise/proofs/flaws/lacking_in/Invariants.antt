use Rattle.ls_surmise.proofs.Vocabulary.{clause_at, clauses_of, find, has, length, not, places_of}
use Rattle.ls_surmise.proofs.Firsts.{FoundFrom}
use Rattle.ls_surmise.proofs.flaws.lacking_in.Given as goal

abbrev pub invariant-loop-j : goal.invariant-loop-j
invariant-loop-j l = FoundFrom (λ j. not (has (clause_at l.clauses l.q j) l.q)) l.j (length (clauses_of l.clauses l.q)) (find (λ j. not (has (clause_at l.clauses l.q j) l.q)) (places_of l.clauses l.q))
