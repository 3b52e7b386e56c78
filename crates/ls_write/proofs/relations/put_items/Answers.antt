use Rattle.ls_room.proofs.Saying.{says_then}
use Rattle.ls_write.proofs.relations.put_items.Goals as goal

pub returns : goal.returns
returns g c = says_then (says_then c.put.ensures.says c.put_names.ensures) c.end_line.ensures
