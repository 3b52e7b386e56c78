-- Saved sessions: the text of a session, and which session a text is. The parts of a text are tried
-- in order, and the first that fails is the cause.
use Rattle.std.specs.Prelude.{ℕ, List, length, Option, Some, None, option_map, Result, Ok, Err}
use Rattle.serde_json.specs.Data.{Data, object, no_members}
use Rattle.serde_json.specs.Written.{compact_text}
use Rattle.ls_theory.specs.Starts.{Start}
use Rattle.ls_theory.specs.{Interview}
use Rattle.ls_theory.specs.Settings.{Settings}
use Rattle.ls_theory.specs.declared.answer.Answer.{Answer}
use Rattle.ls_files.specs.declared.cause.Cause.{Cause}
use Rattle.ls_files.specs.declared.cause.Cause.TheVariants as cause
use Rattle.ls_files.specs.declared.version.Version.{Version}
use Rattle.ls_files.specs.declared.version.Version.TheVariants as version
use Rattle.ls_files.specs.Sessions.{Session}
use Rattle.ls_files.specs.Standing.{stands}
use Rattle.ls_files.specs.Codecs.{both, kept_if, read_object}
use Rattle.ls_files.specs.SessionCodecs.{version_field, names_field, limits_field, odds_field}
use Rattle.ls_files.specs.SessionCodecs.{start_field, block_field, answers_field, next_field}
use Rattle.ls_files.specs.SessionCodecs.{pupils_field, settings_fields, settings_parts}
use Rattle.ls_files.specs.SessionCodecs.{settings_from}

-- ---- the text of a session

-- the object of a session; what is written is version 2
abbrev pub session_value : Session → Data
session_value s =
    let i = s.interview in
    object
    (version_field.put_in version.Ratios
    (names_field.put_in s.names
    ((settings_fields version.Ratios i.count).put_in (settings_parts s.settings)
    ((start_field i.count).put_in i.start
    ((block_field i.count).put_in i.block
    ((answers_field i.count).put_in i.answers
    (next_field.put_in i.next
    ((pupils_field version.Ratios i.count).put_in s.pupils no_members))))))))

-- the bytes that are saved: that object as compact JSON
unfoldable pub session_text : Session → List ℕ
session_text s = compact_text (session_value s)

-- ---- the session that a text is

-- the part, or else the cause
abbrev pub or_cause : {X Y : Type 0} → Cause → Option X → (X → Result Y Cause) → Result Y Cause
or_cause c None next = Err c
or_cause c (Some x) next = next x

-- what comes after parts that are there
abbrev pub and_then : {X Y : Type 0} → Result X Cause → (X → Result Y Cause) → Result Y Cause
and_then (Ok x) next = next x
and_then (Err c) next = Err c

-- the settings of an object: its limits are tried first, and then its odds
abbrev pub settings_in : Version → ℕ → Data → Result Settings Cause
settings_in v n d =
    or_cause cause.Limits (limits_field.find_in d) (λ limits.
    or_cause cause.Odds ((odds_field v n).find_in d) (λ ratios.
    Ok (settings_from ratios limits)))

-- the interview of a start, a block size, answers, and the number of the next answer
abbrev pub interview_from : ℕ → Start → ℕ → List Answer × ℕ → Interview
interview_from n start block p =
    record { count = n; start = start; block = block; answers = p.0; next = p.1 }

-- the interview of n items, of whose parts the answers and the next number are left to be read
abbrev pub read_interview : ℕ → Start → ℕ → Data → Option Interview
read_interview n start block d =
    kept_if stands
    (option_map (interview_from n start block) ((both (answers_field n) next_field).find_in d))

-- the interview of an object: its start is tried first, then its block, then its answers
abbrev pub interview_in : ℕ → Data → Result Interview Cause
interview_in n d =
    or_cause cause.Start ((start_field n).find_in d) (λ start.
    or_cause cause.Block ((block_field n).find_in d) (λ block.
    or_cause cause.Answers (read_interview n start block d) Ok))

-- the session of an object
unfoldable pub session_from : Data → Result Session Cause
session_from d =
    or_cause cause.Version (version_field.find_in d) (λ version.
    or_cause cause.Items (names_field.find_in d) (λ names.
    and_then (settings_in version (length names) d) (λ settings.
    and_then (interview_in (length names) d) (λ interview.
    or_cause cause.Pupils ((pupils_field version (length names)).find_in d) (λ pupils.
    Ok (record {
      names = names;
      interview = interview;
      settings = settings;
      pupils = pupils;
    }))))))

-- the session that bytes are
unfoldable pub session_of : List ℕ → Result Session Cause
session_of bytes = or_cause cause.Json (read_object bytes) session_from
