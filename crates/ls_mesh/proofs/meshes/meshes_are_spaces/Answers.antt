use Rattle.ls_mesh.proofs.Common.{covered-least}
use Rattle.ls_mesh.proofs.Meshed.{among-mesh, mesh-IsFamily, mesh-space, closed-space}
use Rattle.ls_mesh.proofs.Meshed.{closed-family}
use Rattle.ls_mesh.proofs.meshes.meshes_are_spaces.Goals as goal

pub returns : goal.returns
returns c =
    record {
      members = among-mesh;
      family = mesh-IsFamily;
      space = mesh-space;
      covered = covered-least;
      closed_space = closed-space;
      closed_family = closed-family;
    }
