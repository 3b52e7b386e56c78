use Rattle.std.proofs.Common.{◌∙◌, sym}
use Rattle.ls_base.proofs.OwnItems.{among-place, told-more}
use Rattle.ls_base.proofs.own.own_items_but.Goals as goal

pub own_items_from_end-requires-clause-known : goal.own_items_from_end-requires-clause-known
own_items_from_end-requires-clause-known c = λ several.
    let next = c.in-Some.next.now in
    told-more c.args.set c.args.known next c.union.result c.args.sets.now c.union.ensures
    (sym c.is_proper.ensures ∙ c.if-is_proper.true)
    (among-place c.args.sets.now 0 next (sym c.in-Some.ensures.value)) (c.requires.known several)
