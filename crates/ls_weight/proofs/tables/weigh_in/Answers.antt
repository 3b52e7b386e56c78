use Rattle.ls_weight.proofs.Vocabulary.{arith}
use Rattle.ls_weight.proofs.Passing.{products-fit}
use Rattle.ls_weight.proofs.tables.weigh_in.Goals as goal

pub weigh-requires-clause-grows : goal.weigh-requires-clause-grows
weigh-requires-clause-grows g c = (products-fit c.args.weights.now c.args.ratio.a _ (omega arith) c.requires.fits).0

pub weigh-requires-clause-fits : goal.weigh-requires-clause-fits
weigh-requires-clause-fits g c = (products-fit c.args.weights.now c.args.ratio.a _ (omega arith) c.requires.fits).1

pub weigh_masses-requires-clause-sums : goal.weigh_masses-requires-clause-sums
weigh_masses-requires-clause-sums g c = λ h l.
    let all = (products-fit c.args.weights.now c.args.ratio.a _ (omega arith) c.requires.fits).1 in
    omega (arith, c.weigh.ensures.sums h (rw (← c.requires.each_item) l))

pub weigh_masses-requires-clause-fits : goal.weigh_masses-requires-clause-fits
weigh_masses-requires-clause-fits g c = λ q l.
    let item = rw c.requires.each_item at l in
    rw (c.weigh.ensures.cells q item) (c.requires.masses q item)

pub returns-clause-masses : goal.returns-clause-masses
returns-clause-masses g c = λ q l.
    rw (← c.weigh.ensures.cells q l) (c.weigh_masses.ensures q (rw c.requires.each_item l))
