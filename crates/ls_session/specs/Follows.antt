-- What a line says and leaves, by what it does.
use Rattle.std.specs.Prelude.{◌≡◌, ℕ, ◌≤◌, ◌⊎◌, Bool, List, Result, Ok, Err, IsErrOf, Some}
use Rattle.std.specs.declared.option.Option.{Option}
use Rattle.std.specs.Io.KnownBytes.{Appends, Keeps}
use Rattle.ls_edge.specs.Causes.{Rose, AppendsFront}
use Rattle.ls_edge.specs.Files.{Folder}
use Rattle.ls_meaning.specs.{Calls, Effect, Session, is_refusal, reply_of}
use Rattle.ls_state.specs.Decides.{FewCalls, IsDecided, Sees, ShelfState}

-- the bytes were appended, and it is told whether they begin with `no `
pub record Said (before after : Option (List ℕ)) (bytes : List ℕ) (refused : Bool) : Type 0 where
  pub written : Appends before after bytes
  pub told : refused ≡ is_refusal bytes

-- a line that was not decided: the session, told files and the known written bytes are as before
pub record IsUndone (old new : Session) (folder left : Option Folder)
    (before after : Option (List ℕ)) : Type 0 where
  pub session : new ≡ old
  pub files : (m : Folder) → folder ≡ Some m → left ≡ Some m
  pub written : Keeps before after

-- A line was decided and its reply said; or after a fault it was not decided, and nothing failed to
-- be written, or it was decided and a front of its reply said.
abbrev pub Gives : {E : Type 0} → E → Effect → Session → Session → Option Folder → Option Folder
    → Option (List ℕ) → Option (List ℕ) → Result Bool E → Type 0
Gives write effect old new folder left before after (Ok refused) =
    IsDecided effect new folder left × Said before after (reply_of effect) refused
Gives write effect old new folder left before after (Err e) =
    (IsUndone old new folder left before after × (e ≡ write → ⊥))
    ⊎ (IsDecided effect new folder left × AppendsFront before after (reply_of effect))

-- A sink after something was written, or not: the count of its faults never falls, and a fault of
-- writing is told only where it rose.
pub record MovesSink {T E : Type 0} (write : E) (before after : Option (List ℕ))
    (faults_before faults_now : ℕ) (result : Result T E) : Type 0 where
  pub kept : (bytes : List ℕ) × Appends before after bytes
  pub later : faults_before ≤ faults_now
  pub cause : IsErrOf result write → Rose faults_before faults_now

-- The effect by what was seen of the folder was given, whole or, after a fault, in part, by few calls
-- on the folder. It is told that the sink failed (by `write`) only where its count of faults rose; no
-- count of faults falls.
pub record Follows {E : Type 0} (write : E) (effect : Calls → Effect) (old new : Session)
    (shelf left : ShelfState) (before after : Option (List ℕ))
    (faults_before faults_now : ℕ) (result : Result Bool E) : Type 0 where
  pub calls : Calls
  pub sees : Sees calls shelf left
  pub gives : Gives write (effect calls) old new shelf.files left.files before after result
  pub few : FewCalls effect calls shelf left
  pub shelf_later : shelf.faults ≤ left.faults
  pub cause : IsErrOf result write → Rose faults_before faults_now
  pub later : faults_before ≤ faults_now
