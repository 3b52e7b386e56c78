use Rattle.ls_room.proofs.Vocabulary.{◌≡◌, None, arith, common_steps}
use Rattle.ls_room.proofs.Saying.{sends_front, sends_whole}
use Rattle.ls_room.proofs.room.send.Goals as goal

pub returns-in-Ok-clause-sends : goal.returns-in-Ok-clause-sends
returns-in-Ok-clause-sends g c =
    let fine : c.args.fault ≡ None = grind (arith, common_steps) in
    sends_whole _ _ _ _ c.args.fault _ fine (grind (arith, common_steps)) c.write_whole.ensures.cause.later

pub returns-in-Err-clause-sends : goal.returns-in-Err-clause-sends
returns-in-Err-clause-sends g c =
    let fine : c.args.fault ≡ None = grind (arith, common_steps) in
    sends_front _ _ _ _ c.args.fault _ c.write_whole.result c.in-Err.found fine c.in-Err.is (grind (arith, common_steps)) c.write_whole.ensures.cause
