use Rattle.ls_query.proofs.Counted.{counted}
use Rattle.ls_query.proofs.blocks.Blocks.count.Goals as goal

pub unwrap-requires : goal.unwrap-requires
unwrap-requires c = counted c.self.inside.n c.self.inside.k c.count_sets.result c.self.invariant.few_sets c.count_sets.ensures.past
