use Rattle.ls_clauses.proofs.Clauses.{atoms-clauses, base-clauses, base-ordered}
use Rattle.ls_clauses.proofs.FamilyClauses.{surmise-again, surmise-same}
use Rattle.ls_clauses.proofs.surmise.clauses_are_atoms.Goals as goal

pub returns : goal.returns
returns c = record {
  atoms = λ n clauses q surmise. atoms-clauses n clauses surmise q;
  base_sets = λ n clauses k surmise. base-clauses n clauses surmise k;
  base_list = base-ordered;
  again = surmise-again;
  same = surmise-same;
}
