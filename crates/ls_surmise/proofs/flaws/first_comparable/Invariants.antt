use Rattle.ls_surmise.proofs.Vocabulary.{clauses_of, comparable_at, comparable_in, length}
use Rattle.ls_surmise.proofs.Firsts.{FirstFrom}
use Rattle.ls_surmise.proofs.flaws.first_comparable.Given as goal

abbrev pub invariant-loop-i : goal.invariant-loop-i
invariant-loop-i l = FirstFrom (comparable_at l.clauses l.q) l.i (length (clauses_of l.clauses l.q)) (comparable_in l.clauses l.q)
