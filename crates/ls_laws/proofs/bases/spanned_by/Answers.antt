use Rattle.ls_laws.proofs.Interiors.{closed-to, family-from}
use Rattle.ls_laws.proofs.Spans.{spanned-IsUnionFamily, spanned-has, spanned-whole, spanned-needed, spanned-base}
use Rattle.ls_laws.proofs.Vocabulary.{spanned}
use Rattle.ls_laws.proofs.bases.spanned_by.Goals as goal

pub returns : goal.returns
returns c = record {
  closed = λ n g. closed-to (spanned n g) (spanned-IsUnionFamily n g).holds_unions;
  holds = spanned-has;
  whole = spanned-whole;
  base = spanned-needed;
  of_base = λ n f order small space. spanned-base n f order (family-from n f small space);
}
