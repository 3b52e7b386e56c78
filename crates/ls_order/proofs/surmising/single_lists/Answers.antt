use Rattle.std.proofs.Common.{◌∙◌, ◌∷◌, ◌++◌, [], ap, ap₂}
use Rattle.ls_set.specs.ItemSet.{Items}
use Rattle.ls_order.proofs.Surmised.{mapped-all, mapped-next}
use Rattle.ls_order.proofs.surmising.single_lists.Goals as goal

pub loop-row-preserved : goal.loop-row-preserved
loop-row-preserved c =
    let row = c.row-item.result in
    c.in_ok-push-2.ensures.items
    ∙ ap₂ (λ xs x. xs ++ x ∷ []) c.loop-row.invariant
    (c.in_ok-push.ensures.ok ∙ ap (λ xs. xs ++ row ∷ []) c.new-list.ensures)
    ∙ mapped-next (λ (b : Items). b ∷ []) c.args.below.now c.loop-row.row-index row row
    c.loop-row-test.true c.row-item.is

pub returns : goal.returns
returns c =
    c.loop-row.invariant ∙ mapped-all (λ (b : Items). b ∷ []) c.args.below.now
    c.loop-row.row-index c.loop-row-test.false
