use Rattle.ls_clauses.proofs.Clauses.{interior-clauses, interior-dropped, interior-met}
use Rattle.ls_clauses.proofs.surmise.interiors_by_clauses.Goals as goal

pub returns : goal.returns
returns c = record {
  unions = λ n clauses s surmise. interior-clauses n clauses surmise s;
  dropped = interior-dropped;
  left = interior-met;
}
