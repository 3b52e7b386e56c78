use Rattle.ls_mesh.proofs.Common.{among-common, common-IsFamily, common-left, common-right}
use Rattle.ls_mesh.proofs.Common.{common-fixed, interior-fewer, mesh-common, side-shows}
use Rattle.ls_mesh.proofs.meshes.meshes_are_spanned_in_common.Goals as goal

pub returns : goal.returns
returns c = record {
  mesh = mesh-common;
  members = among-common;
  family = common-IsFamily;
  left = common-left;
  right = common-right;
  fixed = common-fixed;
  smaller = interior-fewer;
  shows = side-shows;
}
