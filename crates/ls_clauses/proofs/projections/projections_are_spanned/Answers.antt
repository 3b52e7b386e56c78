use Rattle.ls_clauses.proofs.Traces.{projection-spans, projection-part, projection-spanned, projection-of_spanned, projection-base_of, projection-base}
use Rattle.ls_clauses.proofs.projections.projections_are_spanned.Goals as goal

pub returns : goal.returns
returns c = record {
  spans = projection-spans;
  members = projection-part;
  spanned = projection-spanned;
  of_spanned = projection-of_spanned;
  base_sets = λ n p f g k on part span. projection-base_of n p f g on part span k;
  base_list = projection-base;
}
