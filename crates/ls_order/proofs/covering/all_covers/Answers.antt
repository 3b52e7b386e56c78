use Rattle.std.proofs.Common.{length}
use Rattle.ls_order.proofs.CoverLists.{covered-begin, covered-next, covered-all}
use Rattle.ls_order.proofs.covering.all_covers.Goals as goal

pub loop-low-init : goal.loop-low-init
loop-low-init c =
    covered-begin (length c.args.below.now) c.args.below.now c.new-all.result c.new-all.ensures

pub loop-low-preserved : goal.loop-low-preserved
loop-low-preserved c =
    covered-next (length c.args.below.now) c.args.below.now c.loop-low.low c.loop-low.all
    c.push_covers.new.covers_so_far c.loop-low-test.true c.in_ok-push_covers.ensures
    c.loop-low.invariant

pub returns : goal.returns
returns c =
    covered-all (length c.args.below.now) c.args.below.now c.loop-low.low c.loop-low.all
    c.loop-low-test.false c.loop-low.invariant
