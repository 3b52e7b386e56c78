-- What a command answers and leaves, by what it does.
use Rattle.std.specs.Prelude.{◌≡◌, ◌≤◌, ◌+◌, Result, IfOk, OnOk, OnErr, Some}
use Rattle.std.specs.declared.option.Option.{Option}
use Rattle.std.specs.declared.alloc.AllocError.{AllocError}
use Rattle.ls_edge.specs.Files.{Folder, FolderStays}
use Rattle.ls_cutting.specs.{Text}
use Rattle.ls_meaning.specs.{Calls, Effect, Failed, Session, folder_with}
use Rattle.ls_meaning.specs.declared.response.Response.{Response}
pub use Rattle.ls_deciding.specs.Fetches.{Sees, ShelfState, shelf_state}

-- ---- without the folder

-- the effect's response and session; or memory ran out, and the session is as before
pub record Makes (effect : Effect) (old new : Session)
    (result : Result Response AllocError) : Type 0 where
  pub response : IfOk result (λ r. r ≡ effect.response)
  pub session : OnOk result (new ≡ effect.session)
  pub undone : OnErr result (new ≡ old)

-- ---- with the folder

-- a line that was decided: the session and told files are as its effect leaves them
pub record IsDecided (effect : Effect) (new : Session) (folder left : Option Folder) : Type 0 where
  pub session : new ≡ effect.session
  pub files : (m : Folder) → folder ≡ Some m → left ≡ Some (folder_with m effect.stored)

-- How many calls a line makes on the folder, by what was seen of it: none, where the effect does not
-- depend on the folder; at most one, where what one file gives decides the effect, unless that is
-- told as a call that failed; and never more than two.
pub record FewCalls (effect : Calls → Effect) (calls : Calls)
    (before after : ShelfState) : Type 0 where
  pub alone : ((a b : Calls) → effect a ≡ effect b) → after ≡ before
  pub once : (name : Text) → (calls.file name ≡ Failed → ⊥)
      → ((b : Calls) → b.file name ≡ calls.file name → effect b ≡ effect calls)
      → after.calls ≤ before.calls + 1
  pub twice : after.calls ≤ before.calls + 2

-- The response, the session and the files of an effect by what was seen of the folder; or memory
-- ran out, and all is as before.
pub record Decides (effect : Calls → Effect) (old new : Session) (before after : ShelfState)
    (result : Result Response AllocError) : Type 0 where
  pub calls : Calls
  pub sees : Sees calls before after
  pub response : IfOk result (λ r. r ≡ (effect calls).response)
  pub decided : OnOk result (IsDecided (effect calls) new before.files after.files)
  pub undone : OnErr result ((new ≡ old) × FolderStays before.files after.files)
  pub few : FewCalls effect calls before after
  pub later : before.faults ≤ after.faults
