use Rattle.ls_enum.proofs.Vocabulary.{arith}
use Rattle.ls_enum.proofs.Successors.{none_from_end}
use Rattle.ls_enum.proofs.Seeking.{count-few}
use Rattle.ls_enum.proofs.forward.fill.Goals as goal

pub returns-else-is_empty-clause-none : goal.returns-else-is_empty-clause-none
returns-else-is_empty-clause-none g c = none_from_end _ _ _ _ c.requires.small c.items.ensures.count

pub returns-else-is_empty-clause-cost : goal.returns-else-is_empty-clause-cost
returns-else-is_empty-clause-cost g c = let few = count-few c.args.word c.items.result in omega arith
