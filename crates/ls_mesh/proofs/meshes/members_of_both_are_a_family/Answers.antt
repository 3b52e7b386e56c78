use Rattle.ls_mesh.proofs.Common.{among-both, both-IsFamily, both-left, both-right, both-fixed}
use Rattle.ls_mesh.proofs.Common.{common-both}
use Rattle.ls_mesh.proofs.meshes.members_of_both_are_a_family.Goals as goal

pub returns : goal.returns
returns c =
    record {
      members = among-both;
      family = both-IsFamily;
      left = both-left;
      right = both-right;
      fixed =
          both-fixed;
      spanned = common-both;
    }
