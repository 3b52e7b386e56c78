-- The rows of the settings, of the pupils and of a class.
use Rattle.std.specs.Prelude.{ℕ, ◌+◌, Bool, not, nat_lt, nat_le, is_some, List, [], ◌∷◌, ◌++◌, map}
use Rattle.std.specs.Prelude.{filter, find, length, Option, Some, None, Result, Ok, Err}
use Rattle.std.specs.Prelude.{if◌then◌else◌, bytes_eq}
use Rattle.ls_set.specs.{Items}
use Rattle.ls_theory.specs.{Interview, Row, asked, class_results, compatible_sets, fringes, outcome}
use Rattle.ls_theory.specs.{reply_fault, yes_queries}
use Rattle.ls_theory.specs.Settings.{Settings, are_ratios, are_limits, with_all, with_item}
use Rattle.ls_theory.specs.Settings.{with_limits, most_states, heavy_after}
use Rattle.ls_theory.specs.declared.asked.Asked.{Asked}
use Rattle.ls_theory.specs.declared.outcome.Outcome.{Outcome}
use Rattle.ls_lines.specs.{Text}
pub use Rattle.ls_files.specs.Sessions.{most_pupils}
use Rattle.ls_meaning.specs.Sessions.{Pupil, pupil_states}
use Rattle.ls_files.specs.ClassTables.{class_of}
use Rattle.ls_meaning.specs.Scenes.{Fetched}
use Rattle.ls_meaning.specs.Rows.{file_refusals, bytes_fetched}
use Rattle.ls_meaning.specs.Effects.{Change, changed, refuse, refuse_fault, ◌otherwise◌}
use Rattle.ls_meaning.specs.declared.response.Refusal.{Refusal}
use Rattle.ls_meaning.specs.declared.response.Refusal.TheVariants as refusal_of
use Rattle.ls_meaning.specs.declared.response.Response.{Response}
use Rattle.ls_meaning.specs.declared.response.Response.TheVariants.{Refused, Done, Agreed, Shown}
use Rattle.ls_meaning.specs.declared.response.Shown.TheVariants as shown
use Rattle.ls_meaning.specs.declared.request.Setting.{Setting}
use Rattle.ls_meaning.specs.declared.request.Setting.TheVariants as setting
use Rattle.ls_meaning.specs.declared.request.PupilRequest.{PupilRequest}
use Rattle.ls_meaning.specs.declared.request.PupilRequest.TheVariants as pupil

-- ---- settings

-- others, where their numbers are in range
abbrev pub settings_row : Settings → Bool → Settings → Change Settings
settings_row s fits next = changed s (refuse refusal_of.BadSetting (not fits)) Agreed next

-- `odds`, `ratio` and `limits`
abbrev pub setting_row : Settings → Setting → Change Settings
setting_row s (setting.All ratios) = settings_row s (are_ratios ratios) (with_all s ratios)
setting_row s (setting.Item item ratios) =
    settings_row s (are_ratios ratios) (with_item s item ratios)
setting_row s (setting.Limits budget share) =
    settings_row s (are_limits budget share) (with_limits s budget share)

-- ---- pupils

-- the pupil is called so
abbrev pub has_name : Text → Pupil → Bool
has_name name p = bytes_eq p.name name

-- the pupil of the name
abbrev pub pupil_with : List Pupil → Text → Option Pupil
pupil_with pupils name = find (has_name name) pupils

-- the pupil of the name becomes another
abbrev pub with_pupil : List Pupil → Text → Pupil → List Pupil
with_pupil pupils name next = map (λ p. if has_name name p then next else p) pupils

-- a pupil of an interview that begins
abbrev pub new_pupil : Text → Interview → Settings → Pupil
new_pupil name i settings =
    record {
      name = name;
      start = i.start;
      yeses = yes_queries i.answers;
      settings = settings;
      replies = [];
    }

-- why so many states are not weighed
abbrev pub weighing_refusals : Settings → ℕ → List Refusal
weighing_refusals settings count =
    refuse refusal_of.ManyStates (nat_lt most_states count)
    ++ refuse_fault refusal_of.Heavy (heavy_after settings count)

-- why no pupil of the name begins
abbrev pub begin_refusals : Interview → Settings → List Pupil → Text → List Refusal
begin_refusals i settings pupils name =
    refuse refusal_of.PupilStands (is_some (pupil_with pupils name))
    ++ refuse refusal_of.ManyPupils (nat_le most_pupils (length pupils))
    ++ weighing_refusals settings (length (compatible_sets i))

-- `pupil`: the number of states is told
abbrev pub begin_row : Interview → Settings → List Pupil → Text → Change (List Pupil)
begin_row i settings pupils name =
    changed pupils (begin_refusals i settings pupils name) (Done (length (compatible_sets i)))
    (pupils ++ new_pupil name i settings ∷ [])

-- what a pupil among n items is asked, and what is known of it
abbrev pub asked_of : ℕ → Pupil → Asked
asked_of n p = asked p.settings (pupil_states n p) p.replies

abbrev pub outcome_of : ℕ → Pupil → Outcome
outcome_of n p = outcome p.settings (pupil_states n p) p.replies

-- `question`
abbrev pub question_shown : ℕ → Pupil → Response
question_shown n p = Shown (shown.Asked (asked_of n p))

-- `report`: with the fringes of the state among the pupil's own states
abbrev pub report_shown : ℕ → Pupil → Response
report_shown n p =
    let o = outcome_of n p in Shown (shown.Report o (fringes n (pupil_states n p) o.state))

-- what is shown of the pupil of the name
abbrev pub shown_of : (Pupil → Response) → Option Pupil → Response
shown_of show None = Refused refusal_of.NoPupil
shown_of show (Some p) = show p

-- one more reply
abbrev pub replied : Pupil → ℕ → Bool → Pupil
replied p item right = record p { replies = p.replies ++ record { q = item; right = right } ∷ [] }

-- the pupils as they are
abbrev pub shows : List Pupil → Response → Change (List Pupil)
shows pupils response = record { response = response; next = pupils }

-- `reply`: the number of replies is told
abbrev pub reply_row : ℕ → List Pupil → ℕ → Bool → Option Pupil → Change (List Pupil)
reply_row n pupils item right None = shows pupils (Refused refusal_of.NoPupil)
reply_row n pupils item right (Some p) =
    changed pupils (refuse_fault refusal_of.Reply (reply_fault (asked_of n p) item))
    (Done (length p.replies + 1)) (with_pupil pupils p.name (replied p item right))

-- `close`
abbrev pub close_row : List Pupil → Text → Change (List Pupil)
close_row pupils name =
    changed pupils (refuse refusal_of.NoPupil (not (is_some (pupil_with pupils name)))) Agreed
    (filter (λ p. not (has_name name p)) pupils)

-- what is asked of the pupil of the name, or done with it
abbrev pub pupil_row : Interview → Settings → List Pupil → Text → PupilRequest → Change (List Pupil)
pupil_row i settings pupils name pupil.Begin = begin_row i settings pupils name
pupil_row i settings pupils name pupil.Question =
    shows pupils (shown_of (question_shown i.count) (pupil_with pupils name))
pupil_row i settings pupils name pupil.Report =
    shows pupils (shown_of (report_shown i.count) (pupil_with pupils name))
pupil_row i settings pupils name (pupil.Reply item right) =
    reply_row i.count pupils item right (pupil_with pupils name)
pupil_row i settings pupils name pupil.Close = close_row pupils name

-- ---- a class

-- the rows that were read
abbrev pub rows_read : Result (List Row) ℕ → List Row
rows_read (Ok rows) = rows
rows_read (Err row) = []

-- why a file is no class table: its first bad record
abbrev pub class_refusals : Result (List Row) ℕ → List Refusal
class_refusals (Ok rows) = []
class_refusals (Err row) = refusal_of.BadClass row ∷ []

-- `class`: after these refusals, what is known of each pupil of the table over the states
abbrev pub classed_by : Settings → List Items → List Refusal → Result (List Row) ℕ → Response
classed_by settings f refusals reading =
    (refusals ++ class_refusals reading ++ weighing_refusals settings (length f))
    otherwise Shown (shown.Class (class_results settings f (rows_read reading)))

-- the same over the states of the interview, for the table that was fetched
abbrev pub class_row : Interview → Settings → List Text → Fetched → Response
class_row i settings names fetched =
    classed_by settings (compatible_sets i) (file_refusals fetched)
    (class_of names (bytes_fetched fetched))
