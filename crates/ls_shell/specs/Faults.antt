-- How the faults of a step become those of a run.
use Rattle.ls_session.specs.declared.step_fault.StepFault.{StepFault}
use Rattle.ls_session.specs.declared.step_fault.StepFault.TheVariants.{Write, Memory}
use Rattle.ls_shell.specs.declared.run_fault.RunFault.{RunFault}
use Rattle.ls_shell.specs.declared.run_fault.RunFault.TheVariants as run

-- the fault of a run of which a step met that
abbrev pub run_fault : StepFault → RunFault
run_fault Write = run.Write
run_fault (Memory e) = run.Memory e
