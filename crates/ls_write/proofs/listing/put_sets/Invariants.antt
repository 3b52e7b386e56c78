use Rattle.ls_write.proofs.Vocabulary.{Says, lines_bytes, map, set_line, take}
use Rattle.ls_write.proofs.listing.put_sets.Given as goal

abbrev pub invariant-loop-set : goal.invariant-loop-set
invariant-loop-set g l = Says (g.K.Sink.written l.fn.out) (g.K.Sink.faults l.fn.out) l.fn.room (g.K.Sink.written l.out) (g.K.Sink.faults l.out) l.room (lines_bytes (map (set_line l.texts) (take l.set-index l.sets)))
