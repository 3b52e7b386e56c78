use Rattle.ls_query.proofs.Vocabulary.{◌∙◌, arith, block_before, sym}
use Rattle.ls_query.proofs.Walks.{topped-next, found-of_blocks}
use Rattle.ls_query.proofs.walk.BlockWalk.advance.Goals as goal

pub returns-then-self-items-clause-next : goal.returns-then-self-items-clause-next
returns-then-self-items-clause-next c = rw (← c.self.view_is) (topped-next c.self.inside.blocks c.self.inside.others c.self.inside.end c.self.invariant (omega (arith, c.if-self-items.true, c.items.ensures)))

pub walk_from-requires-clause-within : goal.walk_from-requires-clause-within
walk_from-requires-clause-within c = (found-of_blocks c.self.inside.blocks (block_before c.set.result) c.in-Some.next (sym c.next_set.ensures ∙ c.in-Some.is)).within

pub walk_from-requires-clause-size : goal.walk_from-requires-clause-size
walk_from-requires-clause-size c = (found-of_blocks c.self.inside.blocks (block_before c.set.result) c.in-Some.next (sym c.next_set.ensures ∙ c.in-Some.is)).few
