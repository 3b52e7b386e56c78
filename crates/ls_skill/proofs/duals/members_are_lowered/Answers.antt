use Rattle.ls_skill.proofs.Members.{begins-member, lowered_at-member, lowered-member}
use Rattle.ls_skill.proofs.Members.{lowered_at-absent}
use Rattle.ls_skill.proofs.duals.members_are_lowered.Goals as goal

pub returns : goal.returns
returns c =
    record {
      begins = begins-member;
      step = lowered_at-member;
      all = lowered-member;
      absent =
          lowered_at-absent;
    }
