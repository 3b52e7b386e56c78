use Rattle.ls_base.proofs.Vocabulary.{◌∙◌, IfOk-weaker, ap, needed, sym}
use Rattle.ls_base.proofs.Spanned.{base-listed}
use Rattle.ls_base.proofs.reduction.base_of.Goals as goal

pub returns-clause-base : goal.returns-clause-base
returns-clause-base c =
    IfOk-weaker c.needed_sets.result _ _ (λ v e n small.
    base-listed n c.args.sets.items c.put_in_order.new.sets.items small c.put_in_order.ensures.in_order c.put_in_order.ensures.same
    ∙ ap needed (sym c.deref.ensures.value) ∙ sym e) c.needed_sets.ensures.needed
