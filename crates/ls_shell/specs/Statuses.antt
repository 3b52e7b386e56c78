-- The statuses with which the program ends.
use Rattle.std.specs.Prelude.{ℕ, Bool, true, false, Result, Ok, Err}
use Rattle.ls_shell.specs.declared.status.Status.{Status}
use Rattle.ls_shell.specs.declared.status.Status.TheVariants.{Done, Refused, Usage, ReadFault}
use Rattle.ls_shell.specs.declared.status.Status.TheVariants.{WriteFault, InputLong}
use Rattle.ls_shell.specs.declared.status.Status.TheVariants.{NoMemory, NoScript}
use Rattle.ls_edge.specs.declared.traits.FetchFault.{FetchFault}
use Rattle.ls_edge.specs.declared.traits.FetchFault.TheVariants as fetch
use Rattle.ls_session.specs.declared.step_fault.StepFault.{StepFault}
use Rattle.ls_session.specs.declared.step_fault.StepFault.TheVariants as step
use Rattle.ls_shell.specs.declared.run_fault.RunFault.{RunFault}
use Rattle.ls_shell.specs.declared.run_fault.RunFault.TheVariants as run

-- the number of a status
abbrev pub code_of : Status → ℕ
code_of Done = 0
code_of Refused = 1
code_of Usage = 2
code_of ReadFault = 3
code_of WriteFault = 4
code_of InputLong = 5
code_of NoMemory = 6
code_of NoScript = 7

-- the status of a run over the input, by how it ended
abbrev pub input_status : Result Bool RunFault → Status
input_status (Ok false) = Done
input_status (Ok true) = Refused
input_status (Err run.Long) = InputLong
input_status (Err run.Read) = ReadFault
input_status (Err run.Write) = WriteFault
input_status (Err (run.Memory e)) = NoMemory

-- that of a run over a script that was there whole
abbrev pub whole_status : Result Bool StepFault → Status
whole_status (Ok false) = Done
whole_status (Ok true) = Refused
whole_status (Err step.Write) = WriteFault
whole_status (Err (step.Memory e)) = NoMemory

-- that of a run whose script was not fetched
abbrev pub unread_status : FetchFault → Status
unread_status fetch.Missing = NoScript
unread_status (fetch.TooLarge bytes) = InputLong
unread_status fetch.Failed = ReadFault
unread_status (fetch.Memory e) = NoMemory
