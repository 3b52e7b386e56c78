use Rattle.ls_shell.proofs.Vocabulary.{refl}
use Rattle.ls_shell.proofs.Answered.{answers_none}
use Rattle.ls_shell.proofs.run.Run.new.Goals as goal

pub returns : goal.returns
returns c = λ m faults now. answers_none m _ faults now c.new-2.ensures refl c.in_ok-cutter.ensures
