use Rattle.ls_laws.proofs.Interiors.{closed-from}
use Rattle.ls_laws.proofs.Remains.{after_yes-whole, after_yes-part, after_yes-base, after_yes-needed}
use Rattle.ls_laws.proofs.bases.spans_after_yes.Goals as goal

pub returns : goal.returns
returns c = record {
  spans = after_yes-whole;
  members = λ f r closed. after_yes-part f r (closed-from f closed);
  base = λ f r closed. after_yes-base f r (closed-from f closed);
  list = λ f g r closed f_order g_order same. after_yes-needed f r (closed-from f closed) f_order g g_order same;
}
