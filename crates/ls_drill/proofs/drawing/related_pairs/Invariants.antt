use Rattle.ls_drill.proofs.Vocabulary.{◌++◌, ◌-◌, ◌≡◌, drawn, numbers_from, pairs, related}
use Rattle.ls_drill.proofs.drawing.related_pairs.Given as goal

abbrev pub invariant-loop-i : goal.invariant-loop-i
invariant-loop-i l = l.pairs.items ++ drawn l.generator (pairs (numbers_from l.i (l.n - l.i))) ≡ related l.n l.fn.number
