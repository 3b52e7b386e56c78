use Rattle.ls_room.proofs.Vocabulary.{names_of_set}
use Rattle.ls_room.proofs.Saying.{says_as}
use Rattle.ls_room.proofs.Groups.{joined-spaced}
use Rattle.ls_room.proofs.set_texts.SetTexts.put_names.Goals as goal

pub returns : goal.returns
returns g c = says_as (joined-spaced (names_of_set c.args.self.now c.args.s)) c.put_spaced.ensures
