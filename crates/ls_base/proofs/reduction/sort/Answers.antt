use Rattle.ls_base.proofs.Vocabulary.{answers_always, comes_before, rules}
use Rattle.ls_base.proofs.Orders.{order_of_sets}
use Rattle.ls_base.proofs.reduction.sort.Goals as goal

pub returns-clause-sorted : goal.returns-clause-sorted
returns-clause-sorted c = c.sort_unstable_by.ensures.sorted comes_before order_of_sets (answers_always _ _ _ (λ f a r g h. search rules))
