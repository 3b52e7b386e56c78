use Rattle.ls_laws.proofs.Answering.{forced_yes_is, forced_no_is, forced_no_by, by_is, known_is}
use Rattle.ls_laws.proofs.forced.closures_decide.Goals as goal

pub returns : goal.returns
returns c = record { with_yes = forced_yes_is; with_no = forced_no_is; with_no_by = forced_no_by; number = by_is; known = known_is }
