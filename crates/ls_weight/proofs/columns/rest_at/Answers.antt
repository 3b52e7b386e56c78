use Rattle.ls_weight.proofs.Vocabulary.{arith}
use Rattle.ls_weight.proofs.Marks.{rest-is}
use Rattle.ls_weight.proofs.columns.rest_at.Goals as goal

pub returns : goal.returns
returns c = rest-is c.args.column.now c.args.right c.agreeing.result c.args.place (omega arith) c.agreeing.ensures
