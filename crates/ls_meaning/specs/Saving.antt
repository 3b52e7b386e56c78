-- The rows of `save` and `open`.
use Rattle.std.specs.Prelude.{ℕ, Bool, nat_lt, List, [], ◌∷◌, ◌++◌, length, Result, Ok, Err}
use Rattle.ls_edge.specs.Files.{longest_file}
use Rattle.ls_lines.specs.{Text}
use Rattle.ls_files.specs.{session_of, session_text}
use Rattle.ls_files.specs.declared.cause.Cause.{Cause}
use Rattle.ls_meaning.specs.Scenes.{Fetched}
use Rattle.ls_files.specs.Sessions.{Session as SavedSession}
use Rattle.ls_meaning.specs.Sessions.{Session, saved, taken_up}
use Rattle.ls_meaning.specs.Effects.{Effect, Change, changed, refuse, stores}
use Rattle.ls_meaning.specs.Rows.{file_refusals, bytes_fetched}
use Rattle.ls_meaning.specs.declared.response.Refusal.{Refusal}
use Rattle.ls_meaning.specs.declared.response.Refusal.TheVariants as refusal_of
use Rattle.ls_meaning.specs.declared.response.Response.TheVariants.{Done}

-- why a text isn't stored: it has too many bytes, which is told before the folder is asked; or the
-- call failed
abbrev pub store_refusals : List ℕ → Bool → List Refusal
store_refusals text failed =
    refuse (refusal_of.LargeFile (length text)) (nat_lt longest_file (length text))
    ++ refuse refusal_of.FileFailed failed

-- `save`: a file of the name has the session's text
abbrev pub save_row : Session → Bool → Text → Effect
save_row s failed name =
    let text = session_text (saved s) in stores s (store_refusals text failed) name text

-- the session that was read, or else the one that stands
abbrev pub session_or : Session → Result SavedSession Cause → Session
session_or s (Ok read) = taken_up read
session_or s (Err cause) = s

-- why a file is no saved session, if it is none
abbrev pub session_refusals : Result SavedSession Cause → List Refusal
session_refusals (Ok read) = []
session_refusals (Err cause) = refusal_of.BadSession cause ∷ []

-- after these refusals, the session that was read takes the place of the one that stands, and of its
-- safe interview; the number of its items is told
abbrev pub opened_by : Session → List Refusal → Result SavedSession Cause → Change Session
opened_by s refusals reading =
    let next = session_or s reading in
    changed s (refusals ++ session_refusals reading) (Done (length next.names)) next

-- `open`
abbrev pub open_row : Session → Fetched → Change Session
open_row s fetched = opened_by s (file_refusals fetched) (session_of (bytes_fetched fetched))
