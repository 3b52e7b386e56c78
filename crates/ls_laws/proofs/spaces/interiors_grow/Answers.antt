use Rattle.ls_laws.proofs.Interiors.{interior_grows, interior_again}
use Rattle.ls_laws.proofs.spaces.interiors_grow.Goals as goal

pub returns : goal.returns
returns c = record { monotone = interior_grows; idempotent = interior_again }
