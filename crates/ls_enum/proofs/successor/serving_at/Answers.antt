use Rattle.ls_enum.proofs.Filled.{serving-from}
use Rattle.ls_enum.proofs.successor.serving_at.Goals as goal

pub returns-clause-serves : goal.returns-clause-serves
returns-clause-serves c = λ f word are serves kept. serving-from f word c.args.keep c.args.i c.at.result (c.at.ensures.widest f are) c.at.ensures.place c.at.ensures.before kept
