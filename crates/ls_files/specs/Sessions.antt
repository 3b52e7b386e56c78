-- A session's state.
use Rattle.std.specs.Prelude.{ℕ, List}
use Rattle.ls_set.specs.{Items}
use Rattle.ls_set.specs.declared.query.Query.{Query}
use Rattle.ls_theory.specs.{Interview, Start, compat}
use Rattle.ls_theory.specs.Settings.{Settings}
use Rattle.ls_theory.specs.declared.reply.Reply.{Reply}
use Rattle.ls_cutting.specs.{Text}

-- a pupil: the name; the start, the Yes queries and the settings as they were when it began; and
-- the replies
pub record Pupil : Type 0 where
  pub name : Text
  pub start : Start
  pub yeses : List Query
  pub settings : Settings
  pub replies : List Reply

-- a pupil's states among n items
abbrev pub pupil_states : ℕ → Pupil → List Items
pupil_states n p = compat n p.start p.yeses

-- so many pupils stand at most
abbrev pub most_pupils : ℕ
most_pupils = 16

-- the names of the items, none where no domain stands; the interview; the settings of pupils that
-- begin; and the pupils in the order in which they began
pub record Session : Type 0 where
  pub names : List Text
  pub interview : Interview
  pub settings : Settings
  pub pupils : List Pupil
