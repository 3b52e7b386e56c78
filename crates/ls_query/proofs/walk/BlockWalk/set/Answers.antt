use Rattle.ls_query.proofs.Walks.{topped-some, topped-within, topped-size}
use Rattle.ls_query.proofs.walk.BlockWalk.set.Goals as goal

pub returns-else-self-eq0-clause-within : goal.returns-else-self-eq0-clause-within
returns-else-self-eq0-clause-within c = rw (← c.self.view_is, c.with.ensures, topped-some c.self.inside.others c.self.inside.end c.if-self-eq0.false) (topped-within c.self.inside.blocks c.self.inside.others c.self.inside.end c.self.invariant)

pub returns-else-self-eq0-clause-size : goal.returns-else-self-eq0-clause-size
returns-else-self-eq0-clause-size c = rw (← c.self.view_is, c.with.ensures, topped-some c.self.inside.others c.self.inside.end c.if-self-eq0.false) (topped-size c.self.inside.blocks c.self.inside.others c.self.inside.end c.self.invariant)
