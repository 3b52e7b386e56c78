use Rattle.ls_mesh.proofs.Meshed.{turns-interior}
use Rattle.ls_mesh.proofs.meshes.turns_reach_the_interior.Goals as goal

pub returns : goal.returns
returns c = turns-interior
