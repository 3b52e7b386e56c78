use Rattle.ls_query.proofs.Vocabulary.{empty-within, full}
use Rattle.ls_query.proofs.BlockSets.{first-blocks}
use Rattle.ls_query.proofs.blocks.Blocks.next_set.Goals as goal

pub set_after-requires-in-None-clause-within : goal.set_after-requires-in-None-clause-within
set_after-requires-in-None-clause-within c = rw c.empty.ensures (empty-within (full c.self.inside.n))

pub returns-in-None : goal.returns-in-None
returns-in-None c = rw (← c.self.view_is, c.in-None.is, c.set_after-in-None.ensures, c.empty.ensures) (first-blocks c.self.inside.n c.self.inside.k)
