use Rattle.ls_room.proofs.Saying.{says_then}
use Rattle.ls_write.proofs.skills.put_row.Goals as goal

pub returns : goal.returns
returns g c =
    says_then
    c.put_quoted.ensures
    (says_then c.put.ensures.says (says_then c.put_own.ensures c.put-2.ensures.says))
