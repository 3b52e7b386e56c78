-- A class: each pupil's assessment, answered by a table.
use Rattle.std.specs.Prelude.{ℕ, zero, suc, if◌then◌else◌, List, [], ◌∷◌, ◌++◌, map, length}
use Rattle.ls_set.specs.{Items, has}
use Rattle.ls_theory.specs.declared.reply.Reply.{Reply}
use Rattle.ls_theory.specs.declared.reason.Reason.{Reason}
use Rattle.ls_theory.specs.declared.reason.Reason.TheVariants.{Share, Budget}
use Rattle.ls_theory.specs.declared.asked.Asked.{Asked}
use Rattle.ls_theory.specs.declared.asked.Asked.TheVariants.{Item, Over}
use Rattle.ls_theory.specs.Settings.{Settings}
use Rattle.ls_theory.specs.Assessment.{asked, has_share, leader}

-- a pupil's row of the table: its name, and the items that it gets right
pub record Row : Type 0 where
  pub name : List ℕ
  pub right : Items

-- one turn: the table answers a question, and nothing changes once the assessment is over
abbrev pub turn : Items → Asked → List Reply → List Reply
turn right (Item q) replies = replies ++ record { q = q; right = has right q } ∷ []
turn right (Over reason) replies = replies

-- the replies after m more turns
unfoldable pub replies_in : ℕ → Settings → List Items → Items → List Reply → List Reply
replies_in zero s f right replies = replies
replies_in (suc m) s f right replies =
    replies_in m s f right (turn right (asked s f replies) replies)

-- a pupil's line of the results
pub record PupilResult : Type 0 where
  pub name : List ℕ
  pub replies : ℕ
  pub reason : Reason
  pub state : Items

-- the number of replies when the assessment is over, the reason (by share, or else
-- by budget), and the leader
abbrev pub result_from : Settings → List Items → List ℕ → List Reply → PupilResult
result_from s f name replies =
    let reason = if has_share s f replies then Share else Budget in
    record {
      name = name;
      replies = length replies;
      reason = reason;
      state = leader s.ratios replies f;
    }

-- the results of a class, in the order of the table; each pupil begins with no replies
-- and has at most `budget` turns
unfoldable pub class_results : Settings → List Items → List Row → List PupilResult
class_results s f table =
    map (λ row. result_from s f row.name (replies_in s.budget s f row.right [])) table
