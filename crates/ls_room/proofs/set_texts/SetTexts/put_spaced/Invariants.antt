use Rattle.ls_room.proofs.Vocabulary.{◌-◌, ◌≡◌, Says, drop, length}
use Rattle.ls_room.proofs.Groups.{names_before}
use Rattle.ls_room.proofs.set_texts.SetTexts.put_spaced.Given as goal

abbrev pub invariant-loop-group : goal.invariant-loop-group
invariant-loop-group g l = record {
  said : Says (g.K.Sink.written l.fn.out) (g.K.Sink.faults l.fn.out) l.fn.room (g.K.Sink.written l.out) (g.K.Sink.faults l.out) l.room (drop l.skipped (names_before l.self l.s l.group));
  left : l.left ≡ l.skipped - length (names_before l.self l.s l.group);
}
