use Rattle.ls_clauses.proofs.Lookups.{found-by-halves}
use Rattle.ls_clauses.proofs.members.members_are_found.Goals as goal

pub returns : goal.returns
returns c = found-by-halves
