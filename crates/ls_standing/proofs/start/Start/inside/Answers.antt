use Rattle.ls_standing.proofs.Ruling.{free-inside}
use Rattle.ls_standing.proofs.start.Start.inside.Goals as goal

pub returns-in-Free : goal.returns-in-Free
returns-in-Free c = rw c.in-Free.is (free-inside c.args.n c.args.s c.requires.within)
