use Rattle.ls_cutting.proofs.Cuts.{goes_on}
use Rattle.ls_cutting.proofs.cutter.lines_go_on.Goals as goal

pub returns : goal.returns
returns c = goes_on
