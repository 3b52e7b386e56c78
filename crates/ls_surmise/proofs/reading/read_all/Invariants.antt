use Rattle.ls_surmise.proofs.Vocabulary.{◌≡◌, map, numbers_from, read_own, view}
use Rattle.ls_surmise.proofs.reading.read_all.Given as goal

abbrev pub invariant-loop-q : goal.invariant-loop-q
invariant-loop-q l = l.clauses.items ≡ map (read_own l.d (view l.value)) (numbers_from 0 l.q)
