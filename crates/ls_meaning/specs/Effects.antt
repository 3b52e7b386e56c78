-- What a command does. Its refusals stand in their order; a list of refusals has those that hold.
use Rattle.std.specs.Prelude.{ℕ, Bool, if◌then◌else◌, List, [], ◌∷◌, length, Option, Some, None}
use Rattle.ls_theory.specs.{Interview}
use Rattle.ls_theory.specs.Settings.{Settings}
use Rattle.ls_origins.specs.Safe.{SafeInterview}
use Rattle.ls_lines.specs.{Text}
use Rattle.ls_meaning.specs.Sessions.{Session, Pupil}
use Rattle.ls_meaning.specs.declared.response.Refusal.{Refusal}
use Rattle.ls_meaning.specs.declared.response.Response.{Response}
use Rattle.ls_meaning.specs.declared.response.Response.TheVariants.{Refused, Done}

-- a refusal, where it holds
abbrev pub refuse : Refusal → Bool → List Refusal
refuse refusal holds = if holds then refusal ∷ [] else []

-- that of a fault, if there is one
abbrev pub refuse_fault : {F : Type 0} → (F → Refusal) → Option F → List Refusal
refuse_fault refusal_of None = []
refuse_fault refusal_of (Some fault) = refusal_of fault ∷ []

-- the first refusal, or else the response
infix 3 ◌otherwise◌
abbrev pub ◌otherwise◌ : List Refusal → Response → Response
[] otherwise response = response
(refusal ∷ refusals) otherwise response = Refused refusal

-- a response, and what a part of the session becomes
pub record Change (A : Type 0) : Type 0 where
  pub response : Response
  pub next : A

-- The part is as it was where there is a refusal, of which the first is told; or else it becomes
-- another, with this response.
abbrev pub changed : {A : Type 0} → A → List Refusal → Response → A → Change A
changed old [] response next = record { response = response; next = next }
changed old (refusal ∷ refusals) response next = record { response = Refused refusal; next = old }

-- what a line does: its response, the session after it, and the file that it stores, with its
-- bytes, if it stores one
pub record Effect : Type 0 where
  pub response : Response
  pub session : Session
  pub stored : Option (Text × List ℕ)

-- a file is stored, where nothing refuses it, and the session stays; how many bytes it has is told
abbrev pub stores : Session → List Refusal → Text → List ℕ → Effect
stores s [] name bytes =
    record { response = Done (length bytes); session = s; stored = Some (name, bytes) }
stores s (refusal ∷ refusals) name bytes =
    record { response = Refused refusal; session = s; stored = None }

-- nothing changes
abbrev pub answers : Session → Response → Effect
answers s response = record { response = response; session = s; stored = None }

-- the session becomes another
abbrev pub changes : Change Session → Effect
changes c = record { response = c.response; session = c.next; stored = None }

-- its interview becomes another
abbrev pub changes_interview : Session → Change Interview → Effect
changes_interview s c =
    record { response = c.response; session = record s { interview = c.next }; stored = None }

-- its settings become others
abbrev pub changes_settings : Session → Change Settings → Effect
changes_settings s c =
    record { response = c.response; session = record s { settings = c.next }; stored = None }

-- its safe interview becomes another
abbrev pub changes_safe : Session → Change (Option SafeInterview) → Effect
changes_safe s c =
    record { response = c.response; session = record s { safe = c.next }; stored = None }

-- its pupils become others
abbrev pub changes_pupils : Session → Change (List Pupil) → Effect
changes_pupils s c =
    record { response = c.response; session = record s { pupils = c.next }; stored = None }
