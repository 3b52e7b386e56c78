use Rattle.ls_weight.proofs.Leaders.{leader-place}
use Rattle.ls_weight.proofs.weights.Weights.heaviest.Goals as goal

pub returns : goal.returns
returns c = rw (← c.self.view_is) (leader-place _ _ _ _ _ c.self.invariant.weights c.self.invariant.heaviest)
