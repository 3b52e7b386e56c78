use Rattle.ls_laws.proofs.BaseStarts.{compat-sets}
use Rattle.ls_mesh.proofs.SetParts.{common-bases, mesh-by_bases, mesh-both, mesh-again}
use Rattle.ls_mesh.proofs.SetParts.{side_base-on, side_base-again, side-on, mesh_of-IsFamily}
use Rattle.ls_mesh.proofs.SetParts.{covered-parts, mesh_of-space}
use Rattle.ls_mesh.proofs.parts.meshes_are_told_by_bases.Goals as goal

pub returns : goal.returns
returns c = record {
  spanned = compat-sets;
  bases = common-bases;
  mesh = mesh-by_bases;
  both = mesh-both;
  again = mesh-again;
  base_sets = side_base-on;
  base_again = side_base-again;
  sides = side-on;
  family = mesh_of-IsFamily;
  covered = covered-parts;
  space = mesh_of-space;
}
