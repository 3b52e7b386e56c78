use Rattle.ls_write.proofs.Vocabulary.{◌++◌, Says, codes, name_of, spaced, take}
use Rattle.ls_write.proofs.path_text.put_path.Given as goal

abbrev pub invariant-loop-item : goal.invariant-loop-item
invariant-loop-item g l = Says (g.K.Sink.written l.fn.out) (g.K.Sink.faults l.fn.out) l.fn.room (g.K.Sink.written l.out) (g.K.Sink.faults l.out) l.room ((codes "path" ++ l.shared.text) ++ spaced (name_of l.texts) (take l.item-index l.rest))
