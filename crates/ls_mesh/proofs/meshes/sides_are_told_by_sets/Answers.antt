use Rattle.ls_mesh.proofs.Sides.{within-unions, part-side, part-space, side-interior, side-spanned}
use Rattle.ls_mesh.proofs.Sides.{mesh-by_sides}
use Rattle.ls_mesh.proofs.meshes.sides_are_told_by_sets.Goals as goal

pub returns : goal.returns
returns c =
    record {
      sets = within-unions;
      side = part-side;
      space = part-space;
      interior = side-interior;
      spanned =
          side-spanned;
      members = mesh-by_sides;
    }
