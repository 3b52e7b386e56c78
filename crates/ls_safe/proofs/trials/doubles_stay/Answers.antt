use Rattle.ls_safe.proofs.Tries.{double-stays, double-waits}
use Rattle.ls_safe.proofs.trials.doubles_stay.Goals as goal

pub returns : goal.returns
returns c = record { witness = λ n. double-stays; waits = double-waits }
