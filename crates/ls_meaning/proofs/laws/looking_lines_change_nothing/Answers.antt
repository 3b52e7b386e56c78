use Rattle.ls_meaning.proofs.Looks.{line-none, line-same}
use Rattle.ls_meaning.proofs.laws.looking_lines_change_nothing.Goals as goal

pub returns : goal.returns
returns c = record { session = line-same; stored = line-none }
