use Rattle.ls_columns.proofs.Vocabulary.{}
use Rattle.ls_columns.proofs.Asked.{exact-few, exact-many}
use Rattle.ls_columns.proofs.block.Block.broken.Goals as goal

pub returns-then-len-le-FEW : goal.returns-then-len-le-FEW
returns-then-len-le-FEW c = exact-few c.args.self.now c.args.fallen c.args.kept c.with_any-places.result c.asked.result c.with_any-places.ensures c.asked.ensures.all c.asked.ensures.only

pub returns-else-len-le-FEW : goal.returns-else-len-le-FEW
returns-else-len-le-FEW c = exact-many c.args.self.now c.args.fallen c.args.kept c.with_any-places.result c.without_any.result c.asked-else-len-le-FEW.result c.with_any-places.ensures c.without_any.ensures c.asked-else-len-le-FEW.ensures.all c.asked-else-len-le-FEW.ensures.only
