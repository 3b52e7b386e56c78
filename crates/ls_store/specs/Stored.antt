-- What is stored: the session of parts, and that of a saved session; and the interview and the pupils
-- of an object.
use Rattle.std.specs.Prelude.{ℕ, List, Result, Ok}
use Rattle.serde_json.specs.Data.{Data}
use Rattle.ls_theory.specs.{Interview}
use Rattle.ls_files.specs.{Pupil, Session}
use Rattle.ls_files.specs.SessionCodecs.{pupils_field}
use Rattle.ls_files.specs.SessionFiles.{and_then, interview_in, or_cause}
use Rattle.ls_files.specs.declared.cause.Cause.{Cause}
use Rattle.ls_files.specs.declared.cause.Cause.TheVariants as cause
use Rattle.ls_files.specs.declared.version.Version.{Version}
use Rattle.ls_pupils.specs.Cases.{pupils_of}
use Rattle.ls_store.specs.declared.parts.Parts.{Parts}
use Rattle.ls_store.specs.declared.saved.Saved.{Saved}

-- the session whose domain, interview, settings and pupils are kept in parts
abbrev pub session_of_parts : Parts → Session
session_of_parts p =
    record {
      names = p.domain;
      interview = p.inquiry;
      settings = p.settings;
      pupils =
          pupils_of p.pupils;
    }

-- the session that was read from a text
abbrev pub session_of_saved : Saved → Session
session_of_saved s =
    record {
      names = s.domain;
      interview = s.interview;
      settings = s.settings;
      pupils =
          pupils_of s.pupils;
    }

-- the interview on n items, and the pupils; or the first cause why there are none
abbrev pub held_in : Version → ℕ → Data → Result (Interview × List Pupil) Cause
held_in v n d =
    and_then (interview_in n d)
    (λ i. or_cause cause.Pupils ((pupils_field v n).find_in d) (λ ps. Ok (i, ps)))
