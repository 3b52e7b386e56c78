use Rattle.ls_laws.proofs.Interiors.{family-from}
use Rattle.ls_laws.proofs.Breaks.{good-from}
use Rattle.ls_laws.proofs.Closures.{closure_stays}
use Rattle.ls_laws.proofs.Accepting.{compatible-yes, compatible-no, compatible-fewer}
use Rattle.ls_laws.proofs.changes.yes_cuts_compatible_sets.Goals as goal

pub returns : goal.returns
returns c = record {
  with_yes = compatible-yes;
  with_no = compatible-no;
  retracted = compatible-fewer;
  closure = λ n f r b small space good. closure_stays n f r b (family-from n f small space) (good-from n r good);
}
