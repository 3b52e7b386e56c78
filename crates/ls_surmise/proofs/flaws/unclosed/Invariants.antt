use Rattle.ls_surmise.proofs.Vocabulary.{first_some, numbers_from, unclosed_in}
use Rattle.ls_surmise.proofs.Firsts.{FirstFrom}
use Rattle.ls_surmise.proofs.flaws.unclosed.Given as goal

abbrev pub invariant-loop-q : goal.invariant-loop-q
invariant-loop-q l = FirstFrom (unclosed_in l.clauses) l.q l.n (first_some (unclosed_in l.clauses) (numbers_from 0 l.n))
