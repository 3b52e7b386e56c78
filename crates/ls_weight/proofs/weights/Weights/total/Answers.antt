use Rattle.ls_weight.proofs.Vocabulary.{arith}
use Rattle.ls_weight.proofs.Kept.{kept-bound}
use Rattle.ls_weight.proofs.weights.Weights.total.Goals as goal

pub returns-clause-bound : goal.returns-clause-bound
returns-clause-bound c = omega (arith, kept-bound _ _ _ c.self.invariant)
