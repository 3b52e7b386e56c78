use Rattle.ls_order.proofs.ReadBack.{covers-back}
use Rattle.ls_order.proofs.laws.relations_are_read_back.Goals as goal

pub returns : goal.returns
returns c = covers-back
