use Rattle.ls_safe.proofs.Marking.{marked-at, none-marked, marked-settled-none, marked-settled-some}
use Rattle.ls_safe.proofs.marks.passes_over_marks.Goals as goal

pub returns : goal.returns
returns c =
    record {
      marked = marked-at;
      none_marked = none-marked;
      settled_none = marked-settled-none;
      settled_some = marked-settled-some;
    }
