use Rattle.ls_drill.proofs.Vocabulary.{◌++◌, ◌≡◌, after_words, drawn, row}
use Rattle.ls_drill.proofs.DrawnPairs.{row_from}
use Rattle.ls_drill.proofs.drawing.draw_row.Given as goal

abbrev pub invariant-loop-j : goal.invariant-loop-j
invariant-loop-j l =
    (l.pairs.items ++ drawn l.generator (row_from l.n l.i l.j) ≡ l.initial.pairs.items ++ drawn l.initial.generator (row l.n l.i))
    × (after_words (row_from l.n l.i l.j) l.generator ≡ after_words (row l.n l.i) l.initial.generator)
