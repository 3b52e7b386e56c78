-- Sessions that lines reach.
--     session_after s ls      the session after the lines, from the session s on
--     IsReached s      some lines reach the session from the one that a script begins with
--     IsKept s      where the session has a domain, what is saved of it is whole
use Rattle.std.specs.Prelude.{◌≡◌, ℕ, true, List, [], ◌∷◌}
use Rattle.ls_codecs.specs.{IsWhole}
use Rattle.ls_meaning.specs.{Calls, Session, has_domain, line_effect, saved, started}

-- a line, with what its calls on the folder give
pub record Called : Type 0 where
  pub line : List ℕ
  pub calls : Calls

unfoldable pub session_after : Session → List Called → Session
session_after s [] = s
session_after s (l ∷ ls) = session_after (line_effect s l.calls l.line).session ls

abbrev pub IsReached : Session → Type 0
IsReached s = (ls : List Called) × (session_after (started []) ls ≡ s)

abbrev pub IsKept : Session → Type 0
IsKept s = has_domain s ≡ true → IsWhole (saved s)
