use Rattle.ls_surmise.proofs.Vocabulary.{comparable_in, first_some, numbers_from}
use Rattle.ls_surmise.proofs.Firsts.{FirstFrom}
use Rattle.ls_surmise.proofs.flaws.comparable.Given as goal

abbrev pub invariant-loop-q : goal.invariant-loop-q
invariant-loop-q l = FirstFrom (comparable_in l.clauses) l.q l.n (first_some (comparable_in l.clauses) (numbers_from 0 l.n))
