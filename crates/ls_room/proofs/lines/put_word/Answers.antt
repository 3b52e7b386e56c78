use Rattle.ls_room.proofs.Vocabulary.{◌∷◌, Says, [], if◌then◌else◌}
use Rattle.ls_room.proofs.Saying.{says_nothing, says_then}
use Rattle.ls_room.proofs.lines.put_word.Goals as goal
use Rattle.ls_room.proofs.lines.put_word.Goals.{then-not-is_first, else-not-is_first}

pub returns : goal.returns
returns g c =
    let join = c.if-not-is_first in
    let gap : Says (g.K.Sink.written c.args.out.now) (g.K.Sink.faults c.args.out.now) c.args.room.now (g.K.Sink.written join.out) (g.K.Sink.faults join.out) join.room (if c.args.is_first then [] else 32 ∷ []) =
    elim join.branch [
      | then-not-is_first w ↦ rw (w.out-is, w.room-is, w.if-not-is_first.true) w.space.ensures
      | else-not-is_first w ↦ rw (w.out-is, w.room-is, w.if-not-is_first.false) (says_nothing _ _ _)
    ] in
    says_then gap c.put.ensures.says
