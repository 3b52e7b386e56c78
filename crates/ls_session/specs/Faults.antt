-- How the faults of a sink become those of a step.
use Rattle.ls_edge.specs.declared.traits.SinkFault.{SinkFault}
use Rattle.ls_edge.specs.declared.traits.SinkFault.TheVariants as sink
use Rattle.ls_session.specs.declared.step_fault.StepFault.{StepFault}
use Rattle.ls_session.specs.declared.step_fault.StepFault.TheVariants.{Write, Memory}

-- the fault of a step whose reply met that of the sink
abbrev pub step_fault : SinkFault → StepFault
step_fault sink.Failed = Write
step_fault (sink.Memory e) = Memory e
