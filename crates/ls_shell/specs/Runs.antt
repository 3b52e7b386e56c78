-- What a run over a script leaves, status by status.
use Rattle.std.specs.Prelude.{ℕ, ◌≡◌, ◌<◌, ◌≤◌, List, [], ◌∷◌, ◌++◌, Bool, length, IfSome, Some}
use Rattle.std.specs.Prelude.{Result, IfOk, IsErrOf}
use Rattle.std.specs.declared.option.Option.{Option}
use Rattle.std.specs.Io.KnownBytes.{Appends, Consumes, IsAtEnd}
use Rattle.ls_edge.specs.Causes.{Rose}
use Rattle.ls_edge.specs.Files.{Folder}
use Rattle.ls_lines.specs.{lines}
use Rattle.ls_meaning.specs.{Marked, bare_lines, begun_over, refuses}
use Rattle.ls_session.specs.declared.step_fault.StepFault.{StepFault}
use Rattle.ls_session.specs.declared.step_fault.StepFault.TheVariants as step
use Rattle.ls_shell.specs.declared.run_fault.RunFault.{RunFault}
use Rattle.ls_shell.specs.declared.run_fault.RunFault.TheVariants.{Long, Read, Write}
use Rattle.ls_shell.specs.Faults.{run_fault}
use Rattle.ls_shell.specs.Progress.{HasAnswered, StopsAt}

-- the most bytes that a script has
abbrev pub longest_script : ℕ
longest_script = 67108864

-- bytes were appended, or none
abbrev pub IsExtended : Option (List ℕ) → Option (List ℕ) → Type 0
IsExtended before after = (bytes : List ℕ) × Appends before after bytes

-- the whole script was answered, with marks, and it is told whether some reply begins with `no `
pub record AnswersWhole (folder : Folder) (script : List ℕ) (left : Option Folder)
    (shelf_before shelf_now : ℕ) (before after : Option (List ℕ)) (refused : Bool) : Type 0 where
  pub ended : List Marked
  pub all_lines : bare_lines ended ≡ lines script
  pub told : refused ≡ refuses (begun_over folder) ended
  pub answered : HasAnswered folder ended left shelf_before shelf_now before after

-- the lines that ended within the bytes were answered, and no others
pub record AnswersEnded (folder : Folder) (bytes : List ℕ) (left : Option Folder)
    (shelf_before shelf_now : ℕ) (before after : Option (List ℕ)) : Type 0 where
  pub ended : List Marked
  pub pending : List ℕ
  pub all_lines : bare_lines ended ++ pending ∷ [] ≡ lines bytes
  pub answered : HasAnswered folder ended left shelf_before shelf_now before after

-- a source was taken to its end, and its script was answered, where the files are told
pub record TakesWhole (source source_left : Option (List ℕ)) (folder left : Option Folder)
    (shelf_before shelf_now : ℕ) (before after : Option (List ℕ)) (refused : Bool) : Type 0 where
  pub script : List ℕ
  pub taken : Consumes source source_left script
  pub at_end : IsAtEnd source_left
  pub few : length script ≤ longest_script
  pub answered : (m : Folder) → folder ≡ Some m
      → AnswersWhole m script left shelf_before shelf_now before after refused

-- Bytes were taken of a source, of which those up to the limit count, and their lines that ended
-- were answered, where the files are told. Bytes past the limit are taken only where it was
-- reached.
pub record TakesAndAnswers (more : ℕ) (source source_left : Option (List ℕ))
    (folder left : Option Folder) (shelf_before shelf_now : ℕ)
    (before after : Option (List ℕ)) : Type 0 where
  pub counted : List ℕ
  pub past : List ℕ
  pub taken : Consumes source source_left (counted ++ past)
  pub past_is : length past ≡ more
  pub few : length counted ≤ longest_script
  pub full : 0 < more → length counted ≡ longest_script
  pub answered : (m : Folder) → folder ≡ Some m
      → AnswersEnded m counted left shelf_before shelf_now before after

-- Bytes were taken of a source, and the run stopped within them, or within what follows: what is
-- left of the source, where that is told.
pub record TakesAndStops (write_failed : Type 0) (source source_left : Option (List ℕ))
    (folder left : Option Folder) (shelf_before shelf_now : ℕ)
    (before after : Option (List ℕ)) : Type 0 where
  pub counted : List ℕ
  pub follows : List ℕ
  pub taken : Consumes source source_left counted
  pub few : length counted ≤ longest_script
  pub follows_is : IfSome source_left (λ rest. rest ≡ follows)
  pub stops : (m : Folder) → folder ≡ Some m
      → StopsAt write_failed m (lines (counted ++ follows)) left shelf_before shelf_now before after

-- What a run over the script of a source does, by how it ended: the script was answered whole; or
-- the read failed, or the script is too long, and the lines that ended within the bytes that were
-- taken are answered, and no others; or the run stopped before one of its lines. What was written
-- stays.
pub record TakesScript (source source_left : Option (List ℕ)) (source_before source_now : ℕ)
    (folder left : Option Folder) (shelf_before shelf_now : ℕ) (before after : Option (List ℕ))
    (sink_before sink_now : ℕ) (result : Result Bool RunFault) : Type 0 where
  pub done : IfOk result
      (TakesWhole source source_left folder left shelf_before shelf_now before after)
  pub read : IsErrOf result Read → Rose source_before source_now
      × TakesAndAnswers 0 source source_left folder left shelf_before shelf_now before after
  pub long : IsErrOf result Long
      → TakesAndAnswers 1 source source_left folder left shelf_before shelf_now before after
  pub write : IsErrOf result Write → Rose sink_before sink_now
  pub stopped : (e : StepFault) → IsErrOf result (run_fault e) → TakesAndStops (e ≡ step.Write)
      source source_left folder left shelf_before shelf_now before after
  pub kept : IsExtended before after
