use Rattle.ls_room.proofs.Saying.{says_then}
use Rattle.ls_write.proofs.surmise.put_clause.Goals as goal

pub returns : goal.returns
returns g c = says_then c.put.ensures.says (says_then c.put_quoted_names.ensures c.put-2.ensures.says)
