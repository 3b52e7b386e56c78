use Rattle.std.proofs.Common.{◌≡◌, drop}
use Rattle.serde_json.specs.View.{items_view}
use Rattle.ls_skill.specs.Maps.{skills_seen}
use Rattle.ls_skill.specs.Gathering.{texts_in, with_skills}
use Rattle.ls_skill.proofs.gathering.add_row.Given as goal

-- the item has the skills of the texts from the place on
abbrev pub invariant-loop-place : goal.invariant-loop-place
invariant-loop-place l =
    skills_seen l.skills.entries
    ≡ with_skills l.q (texts_in (items_view (drop l.place l.row))) (skills_seen l.fn.skills.entries)
