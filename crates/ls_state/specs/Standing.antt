-- What stands between two lines.
use Rattle.std.specs.Prelude.{◌≡◌, ℕ, List, [], Option, Some, None}
use Rattle.std.specs.Option.{ForSome}
use Rattle.ls_meaning.specs.{Calls, Session, line_effect, started}
use Rattle.ls_meaning.specs.declared.response.Response.{Response}
use Rattle.ls_room.specs.Rooms.{RoomState, no_reply}

-- where no domain stands, the session that begins without names
abbrev pub standing_session : Option Session → Session
standing_session None = started []
standing_session (Some s) = s

-- some line was answered so, and left this session
pub record IsAfterLine (s : Session) (response : Response) : Type 0 where
  pub old : Session
  pub calls : Calls
  pub line : List ℕ
  pub session : s ≡ (line_effect old calls line).session
  pub responded : response ≡ (line_effect old calls line).response

-- a room, if there is one, is as before a reply
abbrev pub IsIdle : Option RoomState → Type 0
IsIdle room = ForSome room (λ r. r ≡ no_reply)
