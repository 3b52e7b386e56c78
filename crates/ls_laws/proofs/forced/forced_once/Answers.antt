use Rattle.ls_laws.proofs.Answering.{not_both}
use Rattle.ls_laws.proofs.forced.forced_once.Goals as goal

pub returns : goal.returns
returns c = not_both
