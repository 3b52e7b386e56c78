use Rattle.ls_query.proofs.Vocabulary.{sym}
use Rattle.ls_query.proofs.Binomials.{choose-none}
use Rattle.ls_query.proofs.placing.count_of_size.Goals as goal

pub loop-had-init : goal.loop-had-init
loop-had-init c = sym (choose-none c.args.m)
