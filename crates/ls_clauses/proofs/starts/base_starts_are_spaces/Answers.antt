use Rattle.ls_clauses.proofs.Vocabulary.{Sets, [], refl}
use Rattle.ls_clauses.proofs.Covers.{cover-least, base-sets, interior-sets, start-space}
use Rattle.ls_clauses.proofs.starts.base_starts_are_spaces.Goals as goal

pub returns : goal.returns
returns c = record {
  space = λ n sets cover. start-space n (Sets sets) [] cover refl;
  cover = cover-least;
  base = base-sets;
  interior = λ n sets s small. interior-sets n sets small s;
}
