use Rattle.ls_room.proofs.Vocabulary.{line_of}
use Rattle.ls_room.proofs.Saying.{says_then}
use Rattle.ls_room.proofs.lines.put_line.Goals as goal

pub returns : goal.returns
unfolding line_of
returns g c = says_then c.put_joined.ensures c.end_line.ensures
