use Rattle.ls_surmise.proofs.Vocabulary.{◌==◌, clauses_of, find, length, numbers_from}
use Rattle.ls_surmise.proofs.Firsts.{FoundFrom}
use Rattle.ls_surmise.proofs.flaws.no_clause.Given as goal

abbrev pub invariant-loop-q : goal.invariant-loop-q
invariant-loop-q l = FoundFrom (λ q. length (clauses_of l.clauses q) == 0) l.q l.n (find (λ q. length (clauses_of l.clauses q) == 0) (numbers_from 0 l.n))
