use Rattle.ls_lines.proofs.Counts.{count-within}
use Rattle.ls_lines.proofs.laws.counts_are_bounded.Goals as goal

pub returns : goal.returns
returns c = count-within
