use Rattle.ls_laws.proofs.Projecting.{projection-space, projection-has, projection-from}
use Rattle.ls_laws.proofs.spaces.projections_are_spaces.Goals as goal

pub returns : goal.returns
returns c = record { space = projection-space; holds = projection-has; only = projection-from }
