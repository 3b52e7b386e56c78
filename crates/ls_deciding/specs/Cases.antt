-- Safe interviews as the program keeps them.
use Rattle.std.specs.Prelude.{ℕ, Bool, true, false, option_map}
use Rattle.std.specs.declared.option.Option.{Option}
use Rattle.ls_origins.specs.Safe.{SafeInterview, first_family}
use Rattle.ls_standing.specs.Starts.{start_of}
use Rattle.ls_safe.specs.Interviews.{IsSafeOf, queries_of}
use Rattle.ls_meaning.specs.declared.request.SafeRequest.{SafeRequest}
use Rattle.ls_meaning.specs.declared.request.SafeRequest.TheVariants as request
use Rattle.ls_deciding.specs.declared.case.SafeCase.{SafeCase}

-- the safe interview of the definitions
abbrev pub safe_of_case : SafeCase → SafeInterview
safe_of_case c =
    record {
      start = start_of c.start;
      yeses = c.yes;
      answers = queries_of c.safe.answers;
    }

-- What is kept of one on n items is what its answers come to, from the states of its opening on.
abbrev pub IsSafeCase : ℕ → SafeCase → Type 0
IsSafeCase n c =
    let s = safe_of_case c in IsSafeOf n (first_family n s) s.answers c.safe

-- the safe interview, if one stands
abbrev pub safe_interview : Option SafeCase → Option SafeInterview
safe_interview safe = option_map safe_of_case safe

abbrev pub is_opening : SafeRequest → Bool
is_opening request.Open = true
is_opening asked = false
