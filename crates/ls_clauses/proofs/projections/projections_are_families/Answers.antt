use Rattle.ls_clauses.proofs.Traces.{projection-IsFamily, projection-interior}
use Rattle.ls_clauses.proofs.projections.projections_are_families.Goals as goal

pub returns : goal.returns
returns c = record { family = projection-IsFamily; interior = projection-interior }
