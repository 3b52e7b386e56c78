use Rattle.ls_safe.proofs.Marked.{marked-applied, marked-turn, marked-safe, marked-more}
use Rattle.ls_safe.proofs.Marked.{marked-queries, marked-numbers, marked-left}
use Rattle.ls_safe.proofs.marks.marks_tell_what_waits.Goals as goal

pub returns : goal.returns
returns c =
    record {
      step = marked-applied;
      turns = marked-turn;
      safe = marked-safe;
      more = marked-more;
      queries =
          marked-queries;
      numbers = marked-numbers;
      left = marked-left;
    }
