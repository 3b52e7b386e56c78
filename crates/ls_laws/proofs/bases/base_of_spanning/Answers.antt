use Rattle.ls_laws.proofs.Spans.{base-of, base-needed}
use Rattle.ls_laws.proofs.bases.base_of_spanning.Goals as goal

pub returns : goal.returns
returns c = record { members = base-of; list = base-needed }
