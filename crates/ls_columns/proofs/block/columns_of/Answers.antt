use Rattle.ls_columns.proofs.Vocabulary.{ap, arith, get_or, length, length-take-le, most_items, replicate, sym, take, take_more, with_items_is, ◌∙◌, ◌≡◌}
use Rattle.ls_columns.proofs.Columned.{AreColumns-first, AreColumns-more}
use Rattle.ls_columns.proofs.block.columns_of.Goals as goal

pub loop-place-init : goal.loop-place-init
loop-place-init c = AreColumns-first c.in_ok-columns.columns.items (c.in_ok-columns.ensures.items_if_clones_equal (λ y e. e) ∙ ap (replicate most_items) c.empty.ensures)

pub loop-place-preserved : goal.loop-place-preserved
loop-place-preserved c =
    let rs = c.args.rules.now in
    let place = c.loop-place.place in
    let r = get_or rs place c.index-rules-place.result in
    let more = take_more rs place c.index-rules-place.result c.loop-place-test.true in
    let long : place ≡ length (take place rs) = sym (length-take-le place rs (omega (arith, c.loop-place-test.true))) in
    let puts = rw c.deref_mut.ensures.value at c.put.ensures.columns in
    let items = with_items_is c.loop-place.columns c.put.new.columns (omega (arith, c.put.ensures.count, c.loop-place.invariant.count)) in
    rw (more, items) (AreColumns-more (take place rs) r c.loop-place.columns.items c.put.new.columns place long c.loop-place.invariant puts c.put.ensures.count)
