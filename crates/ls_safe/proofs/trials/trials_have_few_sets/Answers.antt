use Rattle.ls_safe.proofs.Tries.{trial-few}
use Rattle.ls_safe.proofs.trials.trials_have_few_sets.Goals as goal

pub returns : goal.returns
returns c = trial-few
