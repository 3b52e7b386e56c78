use Rattle.ls_weight.proofs.Vocabulary.{◌*◌, agrees_in, ap₂, arith, cond, get_or, row_at}
use Rattle.ls_weight.proofs.Passing.{row-is, written-done, written-left}
use Rattle.ls_weight.proofs.passes.weigh_others.Goals as goal

pub overflow_mul-weights : goal.overflow_mul-weights
overflow_mul-weights c =
    let i = c.loop-i.i in
    let own = c.loop-i.invariant.left i (omega arith) in
    let factor = rw (row-is c.args.bytes.now c.args.width i) at c.other_factor.ensures in
    let product = ap₂ (λ x y. x * y) own factor in
    let fits = c.requires.grows i (omega arith) in
    omega arith

pub loop-i-preserved : goal.loop-i-preserved
loop-i-preserved c =
    let i = c.loop-i.i in
    let own = c.loop-i.invariant.left i (omega arith) in
    let factor = rw (row-is c.args.bytes.now c.args.width i) at c.other_factor.ensures in
    record {
      done = written-done c.loop-i.weights i (get_or c.loop-i.weights i 0 * c.other_factor.result) (λ k. get_or c.args.weights.now k 0 * cond (agrees_in (row_at c.args.bytes.now c.args.width k) c.args.reply) 1 c.args.ratio.b) c.loop-i.invariant.done (omega arith) (ap₂ (λ x y. x * y) own factor);
      left = written-left c.loop-i.weights i (get_or c.loop-i.weights i 0 * c.other_factor.result) (λ k. get_or c.args.weights.now k 0) c.loop-i.invariant.left;
    }
