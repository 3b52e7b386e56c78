-- What a run over the script of a named file does, by its status, and what a drill writes.
use Rattle.std.specs.Prelude.{◌≡◌, ℕ, true, false, List, Some, None, Result, Ok, Err, ⊤}
use Rattle.std.specs.declared.option.Option.{Option}
use Rattle.std.specs.FinMap as map
use Rattle.std.specs.Io.KnownBytes.{Appends, Keeps}
use Rattle.ls_edge.specs.Causes.{Rose, AppendsFront}
use Rattle.ls_edge.specs.Files.{Folder, given}
use Rattle.ls_edge.specs.declared.traits.FetchFault.{FetchFault}
use Rattle.ls_edge.specs.declared.traits.FetchFault.TheVariants as fetch
use Rattle.ls_lines.specs.{Text, lines}
use Rattle.ls_words.specs.declared.mode.Mode.{Mode}
use Rattle.ls_words.specs.declared.mode.Mode.TheVariants.{File, Drill}
use Rattle.ls_shell.specs.Progress.{StopsAt}
use Rattle.ls_shell.specs.Runs.{AnswersWhole}
use Rattle.ls_shell.specs.declared.status.Status.{Status}
use Rattle.ls_shell.specs.declared.status.Status.TheVariants.{Done, Refused, ReadFault}
use Rattle.ls_shell.specs.declared.status.Status.TheVariants.{WriteFault, InputLong, NoMemory}
use Rattle.ls_shell.specs.declared.status.Status.TheVariants.{NoScript}

-- the words ask for a file's script
abbrev pub IsFile : Mode → Type 0
IsFile (File name) = ⊤
IsFile mode = ⊥

-- the words ask for no script
abbrev pub HasNoScript : Option Mode → Type 0
HasNoScript None = ⊤
HasNoScript (Some (Drill n number)) = ⊤
HasNoScript (Some mode) = ⊥

-- nothing is written, and the files are as they were
abbrev pub LeavesAll : Folder → Option Folder → Option (List ℕ) → Option (List ℕ) → Type 0
LeavesAll folder left before after = (left ≡ Some folder) × Keeps before after

-- there is no such file: this is told, unless memory ran out
abbrev pub TellsNone : Folder → Option Folder
    → Option (List ℕ) → Option (List ℕ) → Status → Type 0
TellsNone folder left before after NoScript = LeavesAll folder left before after
TellsNone folder left before after NoMemory = LeavesAll folder left before after
TellsNone folder left before after status = ⊥

-- the file is longer than a file that is read: this is told, unless memory ran out
abbrev pub TellsLong : Folder → Option Folder
    → Option (List ℕ) → Option (List ℕ) → Status → Type 0
TellsLong folder left before after InputLong = LeavesAll folder left before after
TellsLong folder left before after NoMemory = LeavesAll folder left before after
TellsLong folder left before after status = ⊥

-- The script was answered whole; or it was not read, where the call on the folder failed; or the
-- run stopped in it, where a write failed or memory ran out.
abbrev pub AnswersFile : Folder → List ℕ → Option Folder → ℕ → ℕ
    → Option (List ℕ) → Option (List ℕ) → Status → Type 0
AnswersFile folder script left shelf_before shelf_now before after Done =
    AnswersWhole folder script left shelf_before shelf_now before after false
AnswersFile folder script left shelf_before shelf_now before after Refused =
    AnswersWhole folder script left shelf_before shelf_now before after true
AnswersFile folder script left shelf_before shelf_now before after ReadFault =
    LeavesAll folder left before after × Rose shelf_before shelf_now
AnswersFile folder script left shelf_before shelf_now before after WriteFault =
    StopsAt ⊤ folder (lines script) left shelf_before shelf_now before after
AnswersFile folder script left shelf_before shelf_now before after NoMemory =
    StopsAt ⊥ folder (lines script) left shelf_before shelf_now before after
AnswersFile folder script left shelf_before shelf_now before after status = ⊥

-- what is done by what a fetch of the file has to give
abbrev pub AnswersGiven : Result (List ℕ) FetchFault → Folder → Option Folder → ℕ → ℕ
    → Option (List ℕ) → Option (List ℕ) → Status → Type 0
AnswersGiven (Ok script) folder left shelf_before shelf_now before after status =
    AnswersFile folder script left shelf_before shelf_now before after status
AnswersGiven (Err fetch.Missing) folder left shelf_before shelf_now before after status =
    TellsNone folder left before after status
AnswersGiven (Err (fetch.TooLarge bytes)) folder left shelf_before shelf_now before after status =
    TellsLong folder left before after status
AnswersGiven (Err fetch.Failed) folder left shelf_before shelf_now before after status = ⊥
AnswersGiven (Err (fetch.Memory e)) folder left shelf_before shelf_now before after status = ⊥

-- by what the folder has under the name
abbrev pub AnswersNamed : Text → Folder → Option Folder → ℕ → ℕ
    → Option (List ℕ) → Option (List ℕ) → Status → Type 0
AnswersNamed name folder left shelf_before shelf_now before after status =
    AnswersGiven (given (map.get folder name)) folder left shelf_before shelf_now before after
    status

-- the text of a drill was written, or a front of it where the sink failed or memory ran out
abbrev pub WritesDrill : List ℕ → Option (List ℕ) → Option (List ℕ) → ℕ → ℕ → Status → Type 0
WritesDrill text before after faults_before faults_now Done = Appends before after text
WritesDrill text before after faults_before faults_now WriteFault =
    AppendsFront before after text × Rose faults_before faults_now
WritesDrill text before after faults_before faults_now NoMemory = AppendsFront before after text
WritesDrill text before after faults_before faults_now status = ⊥
