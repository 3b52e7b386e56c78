use Rattle.ls_query.proofs.Walks.{top-is}
use Rattle.ls_query.proofs.walk.BlockWalk.greatest.Goals as goal

pub returns-clause-item : goal.returns-clause-item
returns-clause-item c = rw (← c.self.view_is) (top-is c.self.inside.blocks c.self.inside.others c.self.inside.end c.checked_sub.result c.self.invariant c.checked_sub.ensures)
