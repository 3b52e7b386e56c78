use Rattle.std.proofs.Common.{◌≡◌, map, take}
use Rattle.ls_skill.proofs.skill_map.SkillMap.to_base.Given as goal

-- the sets of the skills so far
abbrev pub invariant-loop-skill : goal.invariant-loop-skill
invariant-loop-skill l = l.sets.items ≡ map (λ s. s.1) (take l.skill-index l.skill-items)
