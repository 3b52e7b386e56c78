use Rattle.ls_weight.proofs.Vocabulary.{arith}
use Rattle.ls_weight.proofs.Kept.{kept-bound}
use Rattle.ls_weight.proofs.Replied.{mass-part}
use Rattle.ls_weight.proofs.weights.Weights.mass.Goals as goal

pub returns-clause-part : goal.returns-clause-part
returns-clause-part c =
    let item = rw (← c.self.view_is) at c.requires in
    let part = mass-part _ _ _ c.args.q c.index.result.now c.self.invariant item c.index.ensures in
    rw (← c.self.view_is) (omega (arith, c.self.invariant.total))

pub returns-clause-bound : goal.returns-clause-bound
returns-clause-bound c =
    let part = rw (← c.self.view_is) at (returns-clause-part c) in
    let bound = kept-bound _ _ _ c.self.invariant in
    omega arith
