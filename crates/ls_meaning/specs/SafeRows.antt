-- The rows of the safe interview.
use Rattle.std.specs.Prelude.{ℕ, suc, not, List, ◌++◌, filter, length, is_some}
use Rattle.std.specs.Prelude.{Option, Some, None, Result, Ok, Err}
use Rattle.ls_set.specs.{Items}
use Rattle.ls_set.specs.declared.query.Query.{Query}
use Rattle.ls_set.specs.declared.cursor.CursorFault.{CursorFault}
use Rattle.ls_theory.specs.{Interview, base, base_verdict, compatible_sets, peak_of}
use Rattle.ls_origins.specs.Safe.{SafeInterview, answered, first_family, opened, safe_answers}
use Rattle.ls_origins.specs.Safe.{safe_family, safe_refusal}
use Rattle.ls_origins.specs.declared.safe_answer.SafeAnswer.{SafeAnswer}
use Rattle.ls_meaning.specs.Effects.{Change, changed, refuse, refuse_fault}
use Rattle.ls_meaning.specs.Rows.{learning_refusals, past_refusal}
use Rattle.ls_meaning.specs.StateLists.{states_on}
use Rattle.ls_meaning.specs.declared.request.SafeRequest.{SafeRequest}
use Rattle.ls_meaning.specs.declared.request.SafeRequest.TheVariants as request
use Rattle.ls_meaning.specs.declared.response.Refusal.TheVariants as refusal_of
use Rattle.ls_meaning.specs.declared.response.Response.{Response}
use Rattle.ls_meaning.specs.declared.response.Response.TheVariants.{Refused, Done, Agreed}
use Rattle.ls_meaning.specs.declared.response.Response.TheVariants.{Accepted, Shown}
use Rattle.ls_meaning.specs.declared.response.Shown.TheVariants as shown

-- how many of the answers are applied, and how many wait
abbrev pub applied : List SafeAnswer → ℕ
applied answers = length (filter (λ a. a.applied) answers)

abbrev pub pending : List SafeAnswer → ℕ
pending answers = length (filter (λ a. not a.applied) answers)

-- `safe-open`: none stands, the base isn't past its bound, and the states are a learning space; how
-- many sets the base has is told
abbrev pub safe_open_row : Interview → Option SafeInterview → Change (Option SafeInterview)
safe_open_row i safe =
    let f = compatible_sets i in
    changed safe
    (refuse refusal_of.SafeStands (is_some safe) ++ refuse_fault past_refusal (peak_of i)
    ++ learning_refusals (base_verdict f))
    (Done (length (base f))) (Some (opened i))

-- `safe`: an answer Yes gets the next number; that is told, and how many of the answers are applied
-- and wait then
abbrev pub accepted_shown : ℕ → List SafeAnswer → Response
accepted_shown number answers = Accepted number (applied answers) (pending answers)

-- one more answer of the safe interview, unless it doesn't take it
abbrev pub safe_answer_row : ℕ → SafeInterview → Query → Change (Option SafeInterview)
safe_answer_row n s r =
    changed (Some s)
    (refuse_fault refusal_of.Safe (safe_refusal n (first_family n s) s.answers r))
    (accepted_shown (suc (length s.answers)) (safe_answers n (answered s r)))
    (Some (answered s r))

-- `safe-list`
abbrev pub safe_list_row : ℕ → SafeInterview → Response
safe_list_row n s = Shown (shown.SafeAnswers (safe_answers n s))

-- `safe-states`: as many of the states that remain as are asked for
abbrev pub safe_states_row : ℕ → SafeInterview → ℕ → Result (Option Items) CursorFault → Response
safe_states_row n s count (Ok after) =
    Shown (shown.Unions (states_on n (safe_family n s)) count after)
safe_states_row n s count (Err fault) = Refused (refusal_of.Cursor fault)

-- the safe interview as it is
abbrev pub shows_safe : SafeInterview → Response → Change (Option SafeInterview)
shows_safe s response = record { response = response; next = Some s }

-- what is asked of the safe interview, or done with it; all but its opening needs one
abbrev pub safe_row : Interview → Option SafeInterview → SafeRequest → Change (Option SafeInterview)
safe_row i safe request.Open = safe_open_row i safe
safe_row i (Some s) (request.Answer r) = safe_answer_row i.count s r
safe_row i (Some s) request.List = shows_safe s (safe_list_row i.count s)
safe_row i (Some s) (request.States count after) =
    shows_safe s (safe_states_row i.count s count after)
safe_row i (Some s) request.Close = record { response = Agreed; next = None }
safe_row i None asked = record { response = Refused refusal_of.NoSafe; next = None }
