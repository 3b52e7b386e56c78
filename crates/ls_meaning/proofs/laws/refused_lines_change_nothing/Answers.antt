use Rattle.ls_meaning.proofs.Kept.{reply-still, world-still}
use Rattle.ls_meaning.proofs.laws.refused_lines_change_nothing.Goals as goal

pub returns : goal.returns
returns c =
    record {
      session = λ s calls line h. (reply-still s calls line h).session;
      stored = λ s calls line h. (reply-still s calls line h).stored;
      world = world-still;
    }
