use Rattle.ls_laws.proofs.Judged.{closed-pair, verdict-atoms, learning-is, double-found}
use Rattle.ls_laws.proofs.gradation.judged_by_atoms.Goals as goal

pub returns : goal.returns
returns c = record { closed = closed-pair; space = verdict-atoms; learning = learning-is; double = double-found }
