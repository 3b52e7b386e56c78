use Rattle.ls_write.proofs.Vocabulary.{Says, lines_bytes, map, safe_line, take}
use Rattle.ls_write.proofs.safe.put_answer_lines.Given as goal

abbrev pub invariant-loop-answer : goal.invariant-loop-answer
invariant-loop-answer g l =
    Says (g.K.Sink.written l.fn.out) (g.K.Sink.faults l.fn.out) l.fn.room (g.K.Sink.written l.out)
    (g.K.Sink.faults l.out) l.room (lines_bytes (map safe_line (take l.answer-index l.list)))
