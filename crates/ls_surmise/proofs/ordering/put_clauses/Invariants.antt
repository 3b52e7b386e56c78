use Rattle.ls_surmise.proofs.Vocabulary.{◌≡◌, AreOn, ℕ, all_clauses, in_order, map, take}
use Rattle.ls_surmise.proofs.ordering.put_clauses.Given as goal

abbrev pub invariant-loop-own : goal.invariant-loop-own
invariant-loop-own l = (n : ℕ) → AreOn n (all_clauses l.clauses) → l.put.items ≡ map (in_order n) (take l.own-index l.clauses)
