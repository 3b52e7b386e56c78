-- What a line sees of the folder, by what it fetches.
use Rattle.std.specs.Prelude.{◌≡◌, ◌⊎◌, ℕ, ◌≤◌, Bool, true, false, List, [], ◌∷◌, Result, Ok, Err}
use Rattle.std.specs.Prelude.{Some, Vec, ⊤, bytes_eq}
use Rattle.std.specs.declared.option.Option.{Option}
use Rattle.std.specs.declared.alloc.AllocError.{AllocError}
use Rattle.std.specs.declared.alloc.Global.{Global}
use Rattle.ls_edge.specs.Causes.{Rose, one_more}
use Rattle.ls_edge.specs.Files.{Folder, FolderStays}
use Rattle.ls_edge.specs.declared.traits.Shelf as shelf
use Rattle.ls_cutting.specs.{Text}
use Rattle.ls_meaning.specs.{Bytes, Calls, Failed, Fetched, Missing, TooLarge, calls_of}
use Rattle.ls_meaning.specs.{file_refusals}
use Rattle.ls_meaning.specs.declared.response.Refusal.{Refusal}
use Rattle.ls_meaning.specs.MeshRows.{two_files}
use Rattle.ls_deciding.specs.TwoFiles.{right_bytes}
use Rattle.ls_deciding.specs.declared.meshes.TwoFiles.{TwoFiles}

-- a shelf as it is seen: its files, where they are told, how often it has failed, how many calls
-- were made on it, and whether the last one failed
pub record ShelfState : Type 0 where
  pub files : Option Folder
  pub faults : ℕ
  pub calls : ℕ
  pub failed : Bool

-- how a shelf is seen, by what is told of it
abbrev pub shelf_state : {H : Type 0} → shelf.Ghosts H → H → ShelfState
shelf_state told h =
    record {
      files = told.files h;
      faults = told.faults h;
      calls = told.calls h;
      failed = told.failed h;
    }

-- the last call failed, and the count of faults rose
abbrev pub FailedLast : ShelfState → ShelfState → Type 0
FailedLast before after = Rose before.faults after.faults × (after.failed ≡ true)

-- What a line saw of the folder: told files are seen by whether a call of the line failed; and a
-- call that fails is its last, and fails only where the count of faults rose.
pub record Sees (calls : Calls) (before after : ShelfState) : Type 0 where
  pub told : (m : Folder) → before.files ≡ Some m → (name : Text)
      → calls.file name ≡ (calls_of m calls.failed).file name
  pub failed : (name : Text) → calls.file name ≡ Failed → calls.failed ≡ true
  pub cause : calls.failed ≡ true → FailedLast before after

-- ---- one file

-- the bytes that a call gave, or the refusal of a file that gives none, unless memory ran out
abbrev pub IsFetched : Fetched → Result (Result (Vec ℕ Global) Refusal) AllocError → Type 0
IsFetched given (Ok (Ok bytes)) = given ≡ Bytes bytes.items
IsFetched given (Ok (Err refusal)) = file_refusals given ≡ refusal ∷ []
IsFetched given (Err e) = ⊤

-- what a line saw of the folder by some fetches, which gave this, and how many they were
pub record Fetching (IsGiven IsMade : Calls → Type 0) (before after : ShelfState) : Type 0 where
  pub calls : Calls
  pub sees : Sees calls before after
  pub given : IsGiven calls
  pub made : IsMade calls
  pub kept : FolderStays before.files after.files
  pub later : before.faults ≤ after.faults

-- a file was fetched, by one call
abbrev pub SeesFile : Text → ShelfState → ShelfState
    → Result (Result (Vec ℕ Global) Refusal) AllocError → Type 0
SeesFile name before after result =
    Fetching (λ calls. IsFetched (calls.file name) result)
    (λ calls. after.calls ≡ one_more before.calls) before after

-- ---- two files

-- the bytes of two files, or the first refusal of a file that gives none, unless memory ran out
abbrev pub AreFetched : Fetched → Fetched → Result (Result TwoFiles Refusal) AllocError → Type 0
AreFetched left right (Ok (Ok files)) =
    (left ≡ Bytes files.left.items) × (right ≡ Bytes (right_bytes files))
AreFetched left right (Ok (Err refusal)) =
    (rest : List Refusal) × (two_files left right ≡ refusal ∷ rest)
AreFetched left right (Err e) = ⊤

-- what is told of a file that gave bytes: where a later call of the line failed, that its own did
abbrev pub GaveBytes : Fetched → Type 0
GaveBytes (Bytes bytes) = ⊤
GaveBytes Missing = ⊥
GaveBytes (TooLarge length) = ⊥
GaveBytes Failed = ⊤

-- one call was made, or a second one, for a file of another name, after the first gave bytes
abbrev pub AreMade : Text → Text → Calls → ShelfState → ShelfState → Type 0
AreMade left right calls before after =
    (after.calls ≡ one_more before.calls)
    ⊎ ((after.calls ≡ one_more (one_more before.calls))
    × (bytes_eq left right ≡ false) × GaveBytes (calls.file left))

-- two files were fetched
abbrev pub SeesFiles : Text → Text → ShelfState → ShelfState
    → Result (Result TwoFiles Refusal) AllocError → Type 0
SeesFiles left right before after result =
    Fetching (λ calls. AreFetched (calls.file left) (calls.file right) result)
    (λ calls. AreMade left right calls before after) before after
