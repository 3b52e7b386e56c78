use Rattle.ls_query.proofs.Walks.{others-within}
use Rattle.ls_query.proofs.walk.BlockWalk.others.Goals as goal

pub returns-clause-within : goal.returns-clause-within
returns-clause-within c = rw (← c.self.view_is) (others-within c.self.inside.blocks c.self.inside.others c.self.inside.end c.self.invariant)
