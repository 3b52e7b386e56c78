use Rattle.std.proofs.Common.{◌∙◌, ◌≤◌, List, length, subst, sym}
use Rattle.std.proofs.lemmas.List.{with_items_is}
use Rattle.ls_set.specs.ItemSet.{Items, most_items}
use Rattle.ls_order.specs.Closing.{ArePaired}
use Rattle.ls_order.proofs.Strict.{made-relation}
use Rattle.ls_order.proofs.relation.Relation.from_rows.Goals as goal

pub invariant_of-result : goal.invariant_of-result
invariant_of-result c =
    let given = c.deref_mut.result.now in
    let next = c.make_order.new.rows in
    let back = sym c.deref_mut.ensures.value in
    made-relation given next _ c.make_order.result
    (subst (λ (rows : List Items). ArePaired (length rows) rows) back c.requires.paired)
    (subst (λ (rows : List Items). length rows ≤ most_items) back c.requires.few)
    c.make_order.ensures.cycle c.in-None.ensures.below c.in-None.is c.make_order.ensures.as_many
    (with_items_is c.args.rows next (c.make_order.ensures.as_many ∙ c.deref_mut.ensures.len))
