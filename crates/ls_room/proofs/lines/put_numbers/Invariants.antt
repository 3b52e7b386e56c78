use Rattle.ls_room.proofs.Vocabulary.{◌∷◌, Says, decimal, flat_map, take}
use Rattle.ls_room.proofs.lines.put_numbers.Given as goal

abbrev pub invariant-loop-number : goal.invariant-loop-number
invariant-loop-number g l = Says (g.K.Sink.written l.fn.out) (g.K.Sink.faults l.fn.out) l.fn.room (g.K.Sink.written l.out) (g.K.Sink.faults l.out) l.room (flat_map (λ n. 32 ∷ decimal n) (take l.number-index l.numbers))
