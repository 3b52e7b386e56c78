use Rattle.ls_surmise.proofs.Vocabulary.{clauses_of, length, unclosed_at, unclosed_in}
use Rattle.ls_surmise.proofs.Firsts.{FirstFrom}
use Rattle.ls_surmise.proofs.flaws.unclosed_in.Given as goal

abbrev pub invariant-loop-j : goal.invariant-loop-j
invariant-loop-j l = FirstFrom (unclosed_at l.clauses l.q) l.j (length (clauses_of l.clauses l.q)) (unclosed_in l.clauses l.q)
