-- A session's state, and how a session begins.
use Rattle.std.specs.Prelude.{Bool, not, ◌==◌, List, [], length, Option, None}
use Rattle.ls_theory.specs.{Free, Interview, begun, standard}
use Rattle.ls_theory.specs.Settings.{Settings}
use Rattle.ls_origins.specs.Safe.{SafeInterview}
use Rattle.ls_lines.specs.{Text}
use Rattle.ls_files.specs.Sessions.{Session as SavedSession}
pub use Rattle.ls_files.specs.Sessions.{Pupil, pupil_states}

-- the names of the items; the interview on them; the settings of pupils that begin; the pupils, in
-- order of opening; and the safe interview, if one stands
pub record Session : Type 0 where
  pub names : List Text
  pub interview : Interview
  pub settings : Settings
  pub pupils : List Pupil
  pub safe : Option SafeInterview

-- what is saved: all but the safe interview
abbrev pub saved : Session → SavedSession
saved s =
    record {
      names = s.names;
      interview = s.interview;
      settings = s.settings;
      pupils = s.pupils;
    }

-- a saved session that is taken up: no safe interview stands
abbrev pub taken_up : SavedSession → Session
taken_up s =
    record {
      names = s.names;
      interview = s.interview;
      settings = s.settings;
      pupils = s.pupils;
      safe = None;
    }

-- the session that begins with the names
abbrev pub started : List Text → Session
started names =
    let n = length names in
    record {
      names = names;
      interview = begun n Free;
      settings = standard n;
      pupils = [];
      safe = None;
    }

-- a domain stands: there are items
abbrev pub has_domain : Session → Bool
has_domain s = not (length s.names == 0)
