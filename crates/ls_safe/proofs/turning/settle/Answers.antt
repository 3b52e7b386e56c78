use Rattle.std.proofs.lemmas.Result.{err_from_is_err_and}
use Rattle.ls_safe.proofs.Steps.{fault-on}
use Rattle.ls_safe.proofs.turning.settle.Goals as goal

pub returns-in_err-next-clause-past : goal.returns-in_err-next-clause-past
returns-in_err-next-clause-past c =
    let p =
    err_from_is_err_and c.from_residual.result c.from_residual.ensures.1 in
    rw (p.1, p.2)
    (fault-on c.args.b c.loop-settled.settled c.args.answers.now.items
    c.loop-settled.answers.items c.in_err-next.field-0.0 c.loop-settled.invariant.way
    c.in_err-next.ensures.past)
