use Rattle.ls_room.proofs.Saying.{says_then}
use Rattle.ls_room.proofs.set_texts.SetTexts.put_set.Goals as goal

pub returns : goal.returns
returns g c = says_then c.put.ensures.says (says_then c.put_names.ensures c.put-2.ensures.says)
