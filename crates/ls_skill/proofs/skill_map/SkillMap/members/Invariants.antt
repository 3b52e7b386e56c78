use Rattle.std.proofs.Common.{◌≡◌, drop, length}
use Rattle.serde_json.specs.View.{members_view}
use Rattle.ls_files.specs.SkillFiles.{rows_of, members_from}
use Rattle.ls_skill.proofs.skill_map.SkillMap.members.Given as goal

-- the members of the items from q on
abbrev pub invariant-loop-q : goal.invariant-loop-q
invariant-loop-q l =
    members_view l.members.entries
    ≡ members_from (drop l.q l.d) (drop l.q (rows_of (length l.d) l.self.skills))
