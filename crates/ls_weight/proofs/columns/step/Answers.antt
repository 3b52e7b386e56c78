use Rattle.ls_weight.proofs.Vocabulary.{arith}
use Rattle.ls_weight.proofs.Marks.{next-in-rest}
use Rattle.ls_weight.proofs.columns.step.Goals as goal

pub returns : goal.returns
returns c = next-in-rest c.args.column.now c.args.right c.args.place c.args.rest (omega arith) c.requires.rest (omega arith)
