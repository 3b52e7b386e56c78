use Rattle.ls_laws.proofs.Atoms.{base-spans, base-no_union, base-least}
use Rattle.ls_laws.proofs.bases.base_spans.Goals as goal

pub returns : goal.returns
returns c = record { spans = base-spans; no_union = base-no_union; least = base-least }
