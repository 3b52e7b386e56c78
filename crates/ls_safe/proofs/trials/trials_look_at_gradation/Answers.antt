use Rattle.ls_safe.proofs.Tries.{trial-space, trial-graded, trial-atoms}
use Rattle.ls_safe.proofs.trials.trials_look_at_gradation.Goals as goal

pub returns : goal.returns
returns c = record { space = trial-space; graded = trial-graded; atoms = trial-atoms }
