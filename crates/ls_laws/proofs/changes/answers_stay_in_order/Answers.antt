use Rattle.ls_laws.proofs.Numbered.{begun-numbered, accepted-numbered, retracted-numbered}
use Rattle.ls_laws.proofs.changes.answers_stay_in_order.Goals as goal

pub returns : goal.returns
returns c = record { begun = begun-numbered; accepted = accepted-numbered; retracted = retracted-numbered }
