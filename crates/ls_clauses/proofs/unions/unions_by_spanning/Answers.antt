use Rattle.ls_clauses.proofs.Vocabulary.{base, base-member, base-spans}
use Rattle.ls_clauses.proofs.Unclosed.{closed-spanning, pair-spanning}
use Rattle.ls_clauses.proofs.unions.unions_by_spanning.Goals as goal

pub returns : goal.returns
returns c = record {
  closed = closed-spanning;
  closed_by_base = λ f. closed-spanning f (base f) (base-member f) (base-spans f);
  pair = pair-spanning;
  pair_by_base = λ f order. pair-spanning f (base f) order (base-member f) (base-spans f);
}
