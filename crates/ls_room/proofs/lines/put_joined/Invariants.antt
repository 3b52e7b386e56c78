use Rattle.ls_room.proofs.Vocabulary.{Says, join_with_byte, map, take}
use Rattle.ls_room.proofs.lines.put_joined.Given as goal

abbrev pub invariant-loop-i : goal.invariant-loop-i
invariant-loop-i g l = Says (g.K.Sink.written l.fn.out) (g.K.Sink.faults l.fn.out) l.fn.room (g.K.Sink.written l.out) (g.K.Sink.faults l.out) l.room (join_with_byte 32 (map (λ w. w.now) (take l.i l.words)))
