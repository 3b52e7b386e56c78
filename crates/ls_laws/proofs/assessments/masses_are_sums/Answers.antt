use Rattle.ls_laws.proofs.Weights.{mass-sum, mass-rest, weight-more}
use Rattle.ls_laws.proofs.assessments.masses_are_sums.Goals as goal

pub returns : goal.returns
returns c = record { sum = mass-sum; rest = mass-rest; reply = weight-more }
