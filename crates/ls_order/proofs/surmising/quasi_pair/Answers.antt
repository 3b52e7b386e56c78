use Rattle.std.proofs.Common.{◌∙◌, sym, length}
use Rattle.ls_order.proofs.Surmised.{is_quasi, pair-found, pair-next}
use Rattle.ls_order.proofs.surmising.quasi_pair.Goals as goal

pub returns-in-Some : goal.returns-in-Some
returns-in-Some c =
    let below = c.args.below.now in
    pair-found (is_quasi below) c.loop-first.first (length below) c.in-Some.second
    c.loop-first-test.true (sym c.in-Some.is ∙ c.quasi_after.ensures) c.loop-first.invariant

pub loop-first-preserved : goal.loop-first-preserved
loop-first-preserved c =
    let below = c.args.below.now in
    pair-next (is_quasi below) c.loop-first.first (length below)
    c.loop-first-test.true (sym c.in_default.is ∙ c.quasi_after.ensures) c.loop-first.invariant
