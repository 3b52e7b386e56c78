use Rattle.ls_write.proofs.Vocabulary.{Says, name_of, spaced, take}
use Rattle.ls_write.proofs.relations.put_names.Given as goal

abbrev pub invariant-loop-item : goal.invariant-loop-item
invariant-loop-item g l =
    Says (g.K.Sink.written l.fn.out) (g.K.Sink.faults l.fn.out) l.fn.room (g.K.Sink.written l.out)
    (g.K.Sink.faults l.out) l.room (spaced (name_of l.texts) (take l.item-index l.items))
