use Rattle.ls_paths.proofs.Vocabulary.{◌∙◌, IsWithin, Items, PLACES, ap, arith, empty, full, get_or, grown_to, subst, sym, take_all, with}
use Rattle.ls_paths.proofs.Levels.{reached-all, reached-next}
use Rattle.ls_paths.proofs.Written.{place-small}
use Rattle.ls_paths.proofs.order.set_of.Goals as goal

pub returns-then-item-ge-PLACES-clause-within : goal.returns-then-item-ge-PLACES-clause-within
returns-then-item-ge-PLACES-clause-within c = λ within.
    let items = c.args.items.now in
    let l = place-small PLACES items c.loop-item.item-index (subst (λ (s : Items). IsWithin s (full PLACES)) (sym (reached-all items)) within) c.loop-item-test.true in
    absurd (omega (arith, l, c.if-item-ge-PLACES.true))

pub loop-item-preserved : goal.loop-item-preserved
loop-item-preserved c =
    let items = c.args.items.now in
    let i = c.loop-item.item-index in
    c.with-set.ensures ∙ ap (λ s. with s (get_or items i 0)) c.loop-item.invariant ∙ sym (reached-next empty items i c.loop-item-test.true)

pub returns-clause-value : goal.returns-clause-value
returns-clause-value c =
    let items = c.args.items.now in
    c.loop-item.invariant ∙ ap (grown_to empty) (take_all c.loop-item.item-index items (omega arith)) ∙ reached-all items
