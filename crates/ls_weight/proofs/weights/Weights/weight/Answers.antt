use Rattle.ls_weight.proofs.Vocabulary.{arith}
use Rattle.ls_weight.proofs.Kept.{kept-bound, kept-part}
use Rattle.ls_weight.proofs.weights.Weights.weight.Goals as goal

pub returns-clause-part : goal.returns-clause-part
returns-clause-part c =
    let within = rw (← c.self.view_is) at c.requires in
    let part = kept-part _ _ _ c.args.i c.index.result.now c.self.invariant within in
    rw (← c.self.view_is, c.index.ensures) part

pub returns-clause-bound : goal.returns-clause-bound
returns-clause-bound c =
    let part = rw (← c.self.view_is) at (returns-clause-part c) in
    let bound = kept-bound _ _ _ c.self.invariant in
    omega arith
