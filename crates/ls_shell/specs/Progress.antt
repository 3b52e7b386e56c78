-- How far a run over a script has come.
use Rattle.std.specs.Prelude.{ℕ, ◌≡◌, ◌+◌, ◌-◌, ◌^◌, ◌<◌, ◌≤◌, ◌⊎◌, ◌||◌, Bool, true}
use Rattle.std.specs.Prelude.{List, [], ◌∷◌, ◌++◌, take, Result, OnOk, OnErr, IsErrOf, Some}
use Rattle.std.specs.declared.option.Option.{Option}
use Rattle.std.specs.Io.KnownBytes.{Appends, Keeps}
use Rattle.ls_edge.specs.Causes.{Rose, AppendsFront}
use Rattle.ls_edge.specs.Files.{Folder}
use Rattle.ls_lines.specs.{Holds, ahead, lines}
use Rattle.ls_meaning.specs.{Marked, World, bare_lines, begun_over, count_marks, is_refusal}
use Rattle.ls_meaning.specs.{refuses, replies, reply_at, world_after, world_next}
use Rattle.ls_shell.specs.declared.run.Run.{Run}

-- the marks are no more than the rise of the shelf's count, where its counter is not at its
-- greatest value
abbrev pub FewMarks : List Marked → ℕ → ℕ → Type 0
FewMarks ls before now = now < 2 ^ 64 - 1 → before + count_marks ls ≤ now

-- the lines were answered one after another, over the folder as it was at the beginning
pub record HasAnswered (folder : Folder) (ls : List Marked) (left : Option Folder)
    (shelf_before shelf_now : ℕ) (before after : Option (List ℕ)) : Type 0 where
  pub written : Appends before after (replies (begun_over folder) ls)
  pub files : left ≡ Some (world_after (begun_over folder) ls).folder
  pub few : FewMarks ls shelf_before shelf_now

-- Of these lines, those that have ended are answered; the pending bytes, with the bytes that are
-- still to come ahead, make the others.
pub record Answers (folder : Folder) (all : List (List ℕ)) (rest : List ℕ) (run : Run)
    (left : Option Folder) (shelf_before shelf_now : ℕ)
    (before now : Option (List ℕ)) : Type 0 where
  pub ended : List Marked
  pub pending : List ℕ
  pub all_lines : bare_lines ended ++ ahead pending (lines rest) ≡ all
  pub held : Holds run.cutter pending
  pub session : run.session ≡ (world_after (begun_over folder) ended).session
  pub told : run.is_refused ≡ refuses (begun_over folder) ended
  pub answered : HasAnswered folder ended left shelf_before shelf_now before now

-- nothing was answered yet
abbrev pub IsFresh : Run → Type 0
IsFresh run = (m : Folder) (faults : ℕ) (now : Option (List ℕ))
    → Answers m (lines []) [] run (Some m) faults faults now now

-- the files are those before a line, of whose reply nothing is written, or those after it
abbrev pub LeavesFiles : Type 0 → World → Marked → Option Folder → ℕ → Type 0
LeavesFiles write_failed w at left front =
    ((left ≡ Some w.folder) × (front ≡ 0) × (write_failed → ⊥))
    ⊎ (left ≡ Some (world_next w at).folder)

-- A place in a script, before one of its lines. The lines before it are answered; and either the
-- files are those before the line and nothing of its reply is written, or the files are those after
-- it and a front of its reply is written, as they are where the fault was one of writing.
pub record StopsAt (write_failed : Type 0) (folder : Folder) (all : List (List ℕ))
    (left : Option Folder) (shelf_before shelf_now : ℕ)
    (before now : Option (List ℕ)) : Type 0 where
  pub ended : List Marked
  pub at : Marked
  pub others : List (List ℕ)
  pub all_lines : bare_lines ended ++ at.line ∷ others ≡ all
  pub front : ℕ
  pub written :
      let w = world_after (begun_over folder) ended in
      Appends before now (replies (begun_over folder) ended ++ take front (reply_at w at))
  pub files : LeavesFiles write_failed (world_after (begun_over folder) ended) at left front
  pub few : FewMarks (ended ++ at ∷ []) shelf_before shelf_now

-- ---- one line

-- the marked line was answered whole
pub record IsAnswered (w : World) (at : Marked) (old new : Run) (left : Option Folder)
    (before after : Option (List ℕ)) : Type 0 where
  pub session : new.session ≡ (world_next w at).session
  pub cutter : new.cutter ≡ old.cutter
  pub told : new.is_refused ≡ (old.is_refused || is_refusal (reply_at w at))
  pub files : left ≡ Some (world_next w at).folder
  pub written : Appends before after (reply_at w at)

-- it was not begun, or the files are as it leaves them, and a front of its reply was written
abbrev pub IsBegun : Type 0 → World → Marked → Option Folder
    → Option (List ℕ) → Option (List ℕ) → Type 0
IsBegun write_failed w at left before after =
    ((left ≡ Some w.folder) × Keeps before after × (write_failed → ⊥))
    ⊎ ((left ≡ Some (world_next w at).folder) × AppendsFront before after (reply_at w at))

-- a run's session, over a folder
abbrev pub world_of : Run → Folder → World
world_of run folder = record { session = run.session; folder = folder }

-- the line, with a mark where its call on the told folder failed, was answered, or after a fault
-- begun
pub record AnswersLine {T E : Type 0} (write : E) (folder : Folder) (line : List ℕ) (old new : Run)
    (left : Option Folder) (shelf_before shelf_now : ℕ) (before after : Option (List ℕ))
    (result : Result T E) : Type 0 where
  pub failed : Bool
  pub cause : failed ≡ true → Rose shelf_before shelf_now
  pub later : shelf_before ≤ shelf_now
  pub answered :
      let at : Marked = record { line = line; failed = failed } in
      OnOk result (IsAnswered (world_of old folder) at old new left before after)
  pub begun :
      let at : Marked = record { line = line; failed = failed } in
      OnErr result (IsBegun (IsErrOf result write) (world_of old folder) at left before after)
