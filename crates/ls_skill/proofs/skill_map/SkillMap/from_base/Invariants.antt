use Rattle.std.proofs.Common.{◌≡◌, take}
use Rattle.ls_files.specs.SkillFiles.{base_skills}
use Rattle.ls_skill.specs.Maps.{skills_seen}
use Rattle.ls_skill.proofs.skill_map.SkillMap.from_base.Given as goal

-- the skills of the sets so far
abbrev pub invariant-loop-place : goal.invariant-loop-place
invariant-loop-place l = skills_seen l.skills.items ≡ base_skills (take l.place l.sets)
