use Rattle.ls_paths.proofs.Vocabulary.{PLACES, arith, length, refl}
use Rattle.ls_paths.proofs.Padding.{no-order, order-small, other-set, an-order}
use Rattle.ls_paths.proofs.order.Order.from_items.Goals as goal

pub returns-in_err-set-clause-is : goal.returns-in_err-set-clause-is
returns-in_err-set-clause-is c = rw c.from_residual.ensures (no-order c.args.n c.args.items.now (λ h. c.in_err-set.ensures.within (order-small c.args.n PLACES c.args.items.now c.requires h)))

pub returns-then-ne-clause-is : goal.returns-then-ne-clause-is
returns-then-ne-clause-is c = other-set c.args.n c.args.items.now c.in_ok-set.set c.full.result c.ne.result c.in_ok-set.ensures.value c.full.ensures c.ne.ensures c.if-ne.true

pub returns-clause-is : goal.returns-clause-is
returns-clause-is c = an-order c.args.n (length c.args.items.now) c.args.items.now c.in_ok-set.set c.full.result c.ne.result refl (omega arith) c.in_ok-set.ensures.value c.full.ensures c.ne.ensures c.if-ne.false
