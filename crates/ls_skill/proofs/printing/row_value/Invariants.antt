use Rattle.std.proofs.Common.{◌≡◌, map, take}
use Rattle.serde_json.specs.Data.{string}
use Rattle.serde_json.specs.View.{view}
use Rattle.ls_files.specs.SkillFiles.{own_skills}
use Rattle.ls_skill.specs.Maps.{skills_seen}
use Rattle.ls_skill.proofs.printing.row_value.Given as goal

-- the names of the item's skills so far
abbrev pub invariant-loop-skill : goal.invariant-loop-skill
invariant-loop-skill l =
    map view l.names.items
    ≡ map string (own_skills (skills_seen (take l.skill-index l.skills)) l.q)
