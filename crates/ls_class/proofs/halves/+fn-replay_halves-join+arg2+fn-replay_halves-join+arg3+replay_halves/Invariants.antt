use Rattle.ls_class.proofs.Vocabulary.{length}
use Rattle.ls_class.proofs.halves.+fn-replay_halves-join+arg2+fn-replay_halves-join+arg3+replay_halves.Given as goal

abbrev pub decreases-join+arg2 : goal.decreases-join+arg2
decreases-join+arg2 g l = length l.front.now

abbrev pub decreases-join+arg3 : goal.decreases-join+arg3
decreases-join+arg3 g l = length l.back.now

abbrev pub decreases-replay_halves : goal.decreases-replay_halves
decreases-replay_halves g l = length l.rights.now
