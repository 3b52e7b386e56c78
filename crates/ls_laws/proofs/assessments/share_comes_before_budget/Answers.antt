use Rattle.ls_laws.proofs.Weights.{over-share, over-budget, asked-item}
use Rattle.ls_laws.proofs.assessments.share_comes_before_budget.Goals as goal

pub returns : goal.returns
returns c = record { share = over-share; budget = over-budget; item = asked-item }
