use Rattle.ls_write.proofs.Vocabulary.{codes, set_text}
use Rattle.ls_room.proofs.Saying.{says_as, says_then}
use Rattle.ls_room.proofs.LineBytes.{line-one}
use Rattle.ls_write.proofs.judging.put_state.Goals as goal

pub returns : goal.returns
returns g c =
    says_as (line-one (codes "state") (set_text c.args.texts.now c.args.set)) (says_then (says_then c.put.ensures.says c.put_set.ensures) c.end_line.ensures)
