use Rattle.ls_laws.proofs.Interiors.{family-from}
use Rattle.ls_laws.proofs.Breaks.{good-from}
use Rattle.ls_laws.proofs.Closures.{has-closure, kept_is}
use Rattle.ls_laws.proofs.forced.closures_tell.Goals as goal

pub returns : goal.returns
returns c = record { of_query = has-closure; of_no = λ n f r s small space good. kept_is n f r s (family-from n f small space) (good-from n r good) }
