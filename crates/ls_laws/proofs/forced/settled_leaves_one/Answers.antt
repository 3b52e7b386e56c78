use Rattle.ls_laws.proofs.Answering.{no_question, settles}
use Rattle.ls_laws.proofs.forced.settled_leaves_one.Goals as goal

pub returns : goal.returns
returns c = record { question = no_question; one = settles }
