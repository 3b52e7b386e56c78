use Rattle.ls_write.proofs.Vocabulary.{decimal}
use Rattle.ls_room.proofs.Saying.{says_as, says_then}
use Rattle.ls_room.proofs.LineBytes.{line-accepted}
use Rattle.ls_write.proofs.safe.put_accepted.Goals as goal

pub returns : goal.returns
returns g c =
    says_as
    (line-accepted
    (decimal c.args.number) (decimal c.args.applied) (decimal c.args.pending))
    (says_then
    (says_then
    (says_then
    (says_then
    (says_then (says_then c.put.ensures.says c.put_number.ensures) c.put-2.ensures.says)
    c.put_number-2.ensures)
    c.put-3.ensures.says)
    c.put_number-3.ensures)
    c.end_line.ensures)
