-- What a run of the program does, by its status.
use Rattle.std.specs.Prelude.{◌≡◌, ℕ, ◌+◌, ◌≤◌, Bool, true, false, List, length, codes, Some}
use Rattle.std.specs.declared.option.Option.{Option}
use Rattle.std.specs.Io.KnownBytes.{Appends}
use Rattle.ls_edge.specs.Causes.{Rose, AppendsFront}
use Rattle.ls_edge.specs.Files.{Folder}
use Rattle.ls_lines.specs.{lines}
use Rattle.ls_meaning.specs.{final_folder, is_some_refused, transcript}
use Rattle.ls_shell.specs.Progress.{StopsAt}
use Rattle.ls_shell.specs.Runs.{longest_script, AnswersWhole}
use Rattle.ls_shell.specs.declared.status.Status.{Status}
use Rattle.ls_shell.specs.declared.status.Status.TheVariants.{Done, Refused, Usage}
use Rattle.ls_shell.specs.declared.status.Status.TheVariants.{WriteFault, NoMemory}

-- of these bytes, as many as a script may have were taken, or fewer
abbrev pub TakesFew : List ℕ → Option (List ℕ) → Type 0
TakesFew script new =
    (left : List ℕ) → new ≡ Some left → length script ≤ length left + longest_script

-- the whole transcript was written, the folder is as the script leaves it, and it is told whether
-- some reply begins with `no `
pub record WritesTranscript (folder : Folder) (script : List ℕ) (left : Option Folder)
    (before after : Option (List ℕ)) (refused : Bool) : Type 0 where
  pub written : Appends before after (transcript folder script)
  pub files : left ≡ Some (final_folder folder script)
  pub told : is_some_refused folder script ≡ refused

-- a run over the script answers by its transcript, unless memory ran out
abbrev pub AnswersScript : Folder → List ℕ → Option Folder
    → Option (List ℕ) → Option (List ℕ) → Status → Type 0
AnswersScript folder script left before after Done =
    WritesTranscript folder script left before after false
AnswersScript folder script left before after Refused =
    WritesTranscript folder script left before after true
AnswersScript folder script left before after NoMemory = Unit {0}
AnswersScript folder script left before after status = ⊥

-- the same, where calls on the folder may have failed; where memory ran out the run stopped in the
-- script
abbrev pub MarksScript : Folder → List ℕ → Option Folder → ℕ → ℕ
    → Option (List ℕ) → Option (List ℕ) → Status → Type 0
MarksScript folder script left shelf_before shelf_now before after Done =
    AnswersWhole folder script left shelf_before shelf_now before after false
MarksScript folder script left shelf_before shelf_now before after Refused =
    AnswersWhole folder script left shelf_before shelf_now before after true
MarksScript folder script left shelf_before shelf_now before after NoMemory =
    StopsAt ⊥ folder (lines script) left shelf_before shelf_now before after
MarksScript folder script left shelf_before shelf_now before after status = ⊥

-- the line that is written where the words of the command line aren't understood
abbrev pub usage_line : List ℕ
usage_line = codes "usage: lspace [--script NAME | --drill N [--number S]]\n"

-- the usage line was written, or a front of it where the sink failed or memory ran out
abbrev pub WritesUsage : Option (List ℕ) → Option (List ℕ) → ℕ → ℕ → Status → Type 0
WritesUsage before after faults_before faults_now Usage = Appends before after usage_line
WritesUsage before after faults_before faults_now WriteFault =
    AppendsFront before after usage_line × Rose faults_before faults_now
WritesUsage before after faults_before faults_now NoMemory = AppendsFront before after usage_line
WritesUsage before after faults_before faults_now status = ⊥
