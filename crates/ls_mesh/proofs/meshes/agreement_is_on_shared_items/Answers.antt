use Rattle.ls_mesh.proofs.Agreement.{agree-projections}
use Rattle.ls_mesh.proofs.Common.{shared-bases}
use Rattle.ls_mesh.proofs.Sides.{same-bases}
use Rattle.ls_mesh.proofs.meshes.agreement_is_on_shared_items.Goals as goal

pub returns : goal.returns
returns c = record { projections = agree-projections; needed = shared-bases; bases = same-bases }
