use Rattle.ls_laws.proofs.Interiors.{interior-member}
use Rattle.ls_origins.specs.Meshes.{mesh}
use Rattle.ls_mesh.proofs.Meshed.{mesh-from, side-within, side-fewer, side-keeps, left-same}
use Rattle.ls_mesh.proofs.Meshed.{right-same, fixed-member}
use Rattle.ls_mesh.proofs.meshes.sides_keep_members.Goals as goal

pub returns : goal.returns
returns c = record {
  within = side-within;
  smaller = side-fewer;
  left = λ n x f y g s k c. side-keeps x f s k (mesh-from n x f y g k c).left;
  right = λ n x f y g s k c. side-keeps y g s k (mesh-from n x f y g k c).right;
  left_same = left-same;
  right_same = right-same;
  fixed = fixed-member;
  fixed_interior =
      λ n x f y g s a b small d e. interior-member (mesh n x f y g) s
      (fixed-member n x f y g s a b small d e);
}
