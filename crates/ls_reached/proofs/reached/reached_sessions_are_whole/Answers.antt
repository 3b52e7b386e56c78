use Rattle.ls_codecs.proofs.RoundTrip.{read_back}
use Rattle.ls_reached.proofs.Vocabulary.{saved}
use Rattle.ls_reached.proofs.Commands.{line-kept}
use Rattle.ls_reached.proofs.Reaching.{reached-kept, script-reaches}
use Rattle.ls_reached.proofs.reached.reached_sessions_are_whole.Goals as goal

pub returns-clause-step : goal.returns-clause-step
returns-clause-step c = line-kept

pub returns-clause-reached : goal.returns-clause-reached
returns-clause-reached c = reached-kept

pub returns-clause-saved : goal.returns-clause-saved
returns-clause-saved c = λ s reached some. read_back (saved s) (reached-kept s reached some)

pub returns-clause-scripts : goal.returns-clause-scripts
returns-clause-scripts c = script-reaches
