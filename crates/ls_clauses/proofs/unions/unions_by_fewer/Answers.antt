use Rattle.ls_clauses.proofs.Fewer.{missing-apart}
use Rattle.ls_clauses.proofs.unions.unions_by_fewer.Goals as goal

pub returns : goal.returns
returns c f g before after k s e order clean grown = missing-apart f g before after k s e order clean grown
