use Rattle.ls_weight.proofs.Vocabulary.{◌∙◌, empty, get_or_default}
use Rattle.ls_weight.proofs.Rowing.{rows-next}
use Rattle.ls_weight.proofs.rows.rows_of.Goals as goal

pub loop-state-preserved : goal.loop-state-preserved
loop-state-preserved c =
    let width = c.width_of-width.ensures in
    rows-next c.args.n c.args.states.now c.loop-state.state-index c.state-item.result c.loop-state.bytes.items c.push_row.new.bytes.items c.loop-state.invariant c.loop-state-test.true
    (c.state-item.is ∙ get_or_default c.args.states.now c.loop-state.state-index c.state-item.result empty c.loop-state-test.true)
    (rw (← width) c.in_ok-push_row.ensures.long) c.in_ok-push_row.ensures.before (rw (← width) c.in_ok-push_row.ensures.row)
