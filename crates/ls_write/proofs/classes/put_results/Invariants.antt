use Rattle.ls_write.proofs.Vocabulary.{ClassResult, Says, lines_bytes, map, result_line, result_of, take}
use Rattle.ls_write.proofs.classes.put_results.Given as goal

abbrev pub invariant-loop-known : goal.invariant-loop-known
invariant-loop-known g l = Says (g.K.Sink.written l.fn.out) (g.K.Sink.faults l.fn.out) l.fn.room (g.K.Sink.written l.out) (g.K.Sink.faults l.out) l.room (lines_bytes (map (λ (r : ClassResult). result_line l.texts (result_of r)) (take l.known-index l.list)))
