use Rattle.ls_weight.proofs.Vocabulary.{◌*◌, ◌∙◌, agrees_in, ap, arith, cond, get_or, row_at}
use Rattle.ls_weight.proofs.Passing.{factor-le, factors}
use Rattle.ls_weight.proofs.passes.weigh.Goals as goal

pub weigh_others-requires-clause-grows : goal.weigh_others-requires-clause-grows
weigh_others-requires-clause-grows g c = λ i l.
    let t = agrees_in (row_at c.args.bytes.now c.args.width i) c.args.reply in
    let old = get_or c.args.weights.now i 0 in
    let is = ap (λ n. n * cond t 1 c.args.ratio.b) (c.weigh_by_width.ensures.weights i (omega arith)) ∙ factors old c.args.ratio.a c.args.ratio.b t in
    let le = factor-le old c.args.ratio.a c.args.ratio.b t c.requires.order in
    let fits = c.requires.grows i 0 (omega arith) in
    omega (arith, g.met.T.Amount.within)
