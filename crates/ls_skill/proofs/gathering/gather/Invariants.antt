use Rattle.std.proofs.Common.{◌≡◌, ◌-◌, length, map}
use Rattle.serde_json.specs.View.{view}
use Rattle.ls_set.specs.ItemSet.{numbers_from}
use Rattle.ls_skill.specs.Maps.{skills_seen}
use Rattle.ls_skill.specs.Gathering.{own_row, gathered}
use Rattle.ls_skill.proofs.gathering.gather.Given as goal

-- the skills of the items from q on
abbrev pub invariant-loop-q : goal.invariant-loop-q
invariant-loop-q l =
    skills_seen l.skills.entries
    ≡ gathered l.q (map (own_row l.d (view l.value)) (numbers_from l.q (length l.d - l.q)))
