use Rattle.ls_laws.proofs.ReadBack.{has-inner_fringe, has-outer_fringe}
use Rattle.ls_laws.proofs.fringes.fringes_have.Goals as goal

pub returns : goal.returns
returns c = record { inner = has-inner_fringe; outer = has-outer_fringe }
