use Rattle.ls_weight.proofs.Vocabulary.{◌%◌, ◌*◌, ◌+◌, ◌/◌, bit_at, eqb, slice_index}
use Rattle.ls_weight.proofs.Marks.{AreDigits}
use Rattle.ls_weight.proofs.columns.word_of.Given as goal

abbrev pub invariant-loop-j : goal.invariant-loop-j
invariant-loop-j l = AreDigits (λ j. eqb (bit_at (slice_index l.bytes (l.width * (l.first + j) + l.q / 8)) (l.q % 8)) 1) l.j l.word
