use Rattle.ls_laws.proofs.Answering.{left_decides}
use Rattle.ls_laws.proofs.forced.what_is_left_decides.Goals as goal

pub returns : goal.returns
returns c = left_decides
