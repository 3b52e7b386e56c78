use Rattle.ls_safe.proofs.Tries.{step-end, step-end-past, step-past, step-applied}
use Rattle.ls_safe.proofs.Tries.{step-applied-past}
use Rattle.ls_safe.proofs.trials.turns_go_step_by_step.Goals as goal

pub returns : goal.returns
returns c =
    record {
      end = step-end;
      end_past = step-end-past;
      past = step-past;
      applied = step-applied;
      applied_past = step-applied-past;
    }
