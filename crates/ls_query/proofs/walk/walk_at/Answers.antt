use Rattle.ls_query.proofs.Vocabulary.{arith}
use Rattle.ls_query.proofs.Walks.{greatest-small, walk-at, walk-none, topped-at}
use Rattle.ls_query.proofs.walk.walk_at.Goals as goal

pub without-requires : goal.without-requires
without-requires c = omega (arith, greatest-small c.args.blocks c.args.set c.in-Some.item c.requires.within c.in-Some.ensures, c.requires.bounded.few_items)

pub overflow_add-item : goal.overflow_add-item
overflow_add-item c = omega (arith, greatest-small c.args.blocks c.args.set c.in-Some.item c.requires.within c.in-Some.ensures, c.requires.bounded.few_items)

pub invariant_of-t-5 : goal.invariant_of-t-5
invariant_of-t-5 c = rw c.without.ensures (walk-at c.args.blocks c.args.set c.in-Some.item c.requires.bounded c.requires.within c.requires.size c.in-Some.ensures)

pub invariant_of-result : goal.invariant_of-result
invariant_of-result c = walk-none c.args.blocks c.args.set c.requires.bounded c.in-None.ensures

pub returns-in-Some-clause-set : goal.returns-in-Some-clause-set
returns-in-Some-clause-set c = rw c.without.ensures (topped-at c.args.set c.in-Some.item c.in-Some.ensures)
