use Rattle.std.proofs.Common.{◌≡◌, ◌==◌, drop, length, position}
use Rattle.serde_json.specs.View.{view}
use Rattle.ls_lists.specs.Lists.{shifted}
use Rattle.ls_files.specs.SkillFiles.{first_bare}
use Rattle.ls_skill.specs.Gathering.{rows_read}
use Rattle.ls_skill.proofs.reading.first_bare.Given as goal

-- the least bare item is one from q on
abbrev pub invariant-loop-q : goal.invariant-loop-q
invariant-loop-q l =
    shifted l.q (position (λ row. length row == 0) (drop l.q (rows_read l.d (view l.value))))
    ≡ first_bare (rows_read l.d (view l.value))
