-- How the assessments of pupils end whose questions a table answers.
use Rattle.std.specs.Prelude.{ℕ, ◌-◌, if◌then◌else◌, List, [], ◌∷◌, length}
use Rattle.ls_set.specs.{Items}
use Rattle.ls_theory.specs.declared.reply.Reply.{Reply}
use Rattle.ls_theory.specs.declared.replay.Replay.{Replay}
use Rattle.ls_theory.specs.declared.reason.Reason.TheVariants.{Share, Budget}
use Rattle.ls_theory.specs.Settings.{Settings}
use Rattle.ls_theory.specs.{PupilResult, Row, has_share, leader, replies_in}

-- how an assessment ends with these replies: how many there are, the reason (by share, or else by
-- budget), and the leader
abbrev pub ended : Settings → List Items → List Reply → Replay
ended s f replies =
    let reason = if has_share s f replies then Share else Budget in
    record { replies = length replies; reason = reason; state = leader s.ratios replies f }

-- how the assessment ends of a pupil that gets these items right, from the replies on
abbrev pub replay_from : Settings → List Items → List Reply → Items → Replay
replay_from s f replies right = ended s f (replies_in (s.budget - length replies) s f right replies)

-- the line of the results of a pupil with the name
abbrev pub line_of : List ℕ → Replay → PupilResult
line_of name r = record { name = name; replies = r.replies; reason = r.reason; state = r.state }

-- the lines of the results: each pupil's name with how its assessment ends
abbrev pub lines_of : List Row → List Replay → List PupilResult
lines_of [] replays = []
lines_of (row ∷ rows) [] = []
lines_of (row ∷ rows) (r ∷ replays) = line_of row.name r ∷ lines_of rows replays
