use Rattle.ls_safe.proofs.Tries.{turn-waits, turn-waits-past, turn-applied, turn-applied-past}
use Rattle.ls_safe.proofs.Tries.{turn-still, settled-still, past-after}
use Rattle.ls_safe.proofs.trials.new_answers_are_tried_alone.Goals as goal

pub returns : goal.returns
returns c = record {
  waits = turn-waits;
  waits_past = turn-waits-past;
  applied = turn-applied;
  applied_past = turn-applied-past;
  kept = turn-still;
  settled = settled-still;
  not_past = past-after;
}
