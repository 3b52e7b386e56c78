use Rattle.ls_clauses.proofs.Vocabulary.{Clauses, [], refl}
use Rattle.ls_clauses.proofs.Clauses.{meets-unions, compat-clauses, compat-spanned, all-small}
use Rattle.ls_clauses.proofs.Covers.{start-space}
use Rattle.ls_clauses.proofs.surmise.clauses_meet_unions.Goals as goal

pub returns : goal.returns
returns c = record {
  meets = λ n clauses k surmise. meets-unions n clauses surmise k;
  compatible = λ n clauses yeses surmise. compat-clauses n clauses surmise yeses;
  spanned = compat-spanned;
  is_on = all-small;
  space = λ n clauses surmise. start-space n (Clauses clauses) [] surmise refl;
}
