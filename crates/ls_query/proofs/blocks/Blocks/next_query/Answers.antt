use Rattle.ls_query.proofs.Vocabulary.{empty-within, full}
use Rattle.ls_query.proofs.Passing.{first-queries}
use Rattle.ls_query.proofs.blocks.Blocks.next_query.Goals as goal

pub query_after_set-requires-clause-within : goal.query_after_set-requires-clause-within
query_after_set-requires-clause-within c = rw c.empty.ensures (empty-within (full c.self.inside.n))

pub returns-in-None : goal.returns-in-None
returns-in-None c = rw (← c.self.view_is, c.in-None.is, c.query_after_set.ensures, c.empty.ensures) (first-queries c.self.inside.n c.self.inside.k)
