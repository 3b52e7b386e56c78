use Rattle.ls_surmise.proofs.Vocabulary.{first_some, lacking_in, numbers_from}
use Rattle.ls_surmise.proofs.Firsts.{FirstFrom}
use Rattle.ls_surmise.proofs.flaws.lacking.Given as goal

abbrev pub invariant-loop-q : goal.invariant-loop-q
invariant-loop-q l = FirstFrom (lacking_in l.clauses) l.q l.n (first_some (lacking_in l.clauses) (numbers_from 0 l.n))
