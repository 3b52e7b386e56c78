use Rattle.ls_write.proofs.Vocabulary.{Says, cover_line, lines_bytes, map, take}
use Rattle.ls_origins.specs.Relations.{pair_of}
use Rattle.ls_write.proofs.relations.put_cover_lines.Given as goal

abbrev pub invariant-loop-cover : goal.invariant-loop-cover
invariant-loop-cover g l =
    Says (g.K.Sink.written l.fn.out) (g.K.Sink.faults l.fn.out) l.fn.room (g.K.Sink.written l.out)
    (g.K.Sink.faults l.out)
    l.room (lines_bytes (map (λ c. cover_line l.texts (pair_of c)) (take l.cover-index l.list)))
