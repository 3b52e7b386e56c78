use Rattle.ls_safe.proofs.Turns.{safe-learning, safe-ends, safe-family, safe-part, safe-more}
use Rattle.ls_safe.proofs.passes.safe_families_stay_learning_spaces.Goals as goal

pub returns : goal.returns
returns c =
    record {
      learning = safe-learning;
      waiting = safe-ends;
      family = safe-family;
      part = safe-part;
      more =
          safe-more;
    }
