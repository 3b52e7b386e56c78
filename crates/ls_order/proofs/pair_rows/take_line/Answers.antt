use Rattle.std.proofs.Common.{length}
use Rattle.ls_order.proofs.PairRows.{taken-pair}
use Rattle.ls_order.proofs.pair_rows.take_line.Goals as goal

pub returns-in-Pair-clause-taken : goal.returns-in-Pair-clause-taken
returns-in-Pair-clause-taken c = λ pairs small are.
    let low = c.in-Pair.low in
    let high = c.in-Pair.high in
    let within = c.requires.items low high c.in-Pair.is in
    taken-pair (length c.args.rows.now) pairs c.args.row low high c.args.line c.args.rows.now
    c.put_pair.new.rows small are c.in-Pair.is within.0 within.1 c.put_pair.ensures
