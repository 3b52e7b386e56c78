use Rattle.ls_surmise.proofs.Vocabulary.{◌∙◌, ap, is_among, take_all}
use Rattle.ls_surmise.proofs.Orderings.{put-is}
use Rattle.ls_surmise.proofs.ordering.put_sets.Goals as goal

pub returns : goal.returns
returns c = λ n small.
    c.loop-set.invariant ∙ take_all c.loop-set.set-index c.deref-set-items.result.now c.loop-set-test.false ∙ c.deref-set-items.ensures.value
    ∙ put-is n c.args.sets.now c.put_in_order.new.sets.items c.put_in_order.ensures.in_order (λ k. c.put_in_order.ensures.same k ∙ ap (λ g. is_among g k) c.in_ok-put.ensures.items) small
