use Rattle.ls_surmise.proofs.Vocabulary.{◌≡◌, atoms_at, family, map, numbers_from}
use Rattle.ls_surmise.proofs.surmise.atoms_of.Given as goal

abbrev pub invariant-loop-q : goal.invariant-loop-q
invariant-loop-q l = l.clauses.items ≡ map (atoms_at (family l.base)) (numbers_from 0 l.q)
