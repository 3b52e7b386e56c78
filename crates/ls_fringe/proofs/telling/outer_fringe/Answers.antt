use Rattle.ls_fringe.proofs.Vocabulary.{◌∙◌, ◌≡◌, ap, arith, keep_before, outer_fringe, sym, with}
use Rattle.ls_interior.proofs.Chosen.{below-start, below-taken, below-left, below-all, outer-within}
use Rattle.ls_fringe.proofs.telling.outer_fringe.Goals as goal
use Rattle.ls_fringe.proofs.telling.outer_fringe.Goals.{then-is_outer, else-is_outer}

pub loop-item-init : goal.loop-item-init
loop-item-init g c = below-start _ _ c.empty-fringe.ensures

pub loop-item-preserved : goal.loop-item-preserved
loop-item-preserved g c =
    let n = g.F.Inside.item_count c.args.f.now in
    let f = g.F.Inside.members c.args.f.now in
    let t = outer_fringe n f c.args.k in
    elim c.if-is_outer.branch [
      | then-is_outer w ↦ w.fringe-is ∙ w.with-fringe.ensures ∙ ap (λ s. with s c.loop-item.item) c.loop-item.invariant ∙ below-taken t c.loop-item.item (sym c.is_outer.ensures ∙ w.if-is_outer.true)
      | else-is_outer w ↦ w.fringe-is ∙ c.loop-item.invariant ∙ below-left t c.loop-item.item (sym c.is_outer.ensures ∙ w.if-is_outer.false)
    ]

pub returns : goal.returns
returns g c =
    let n = g.F.Inside.item_count c.args.f.now in
    let f = g.F.Inside.members c.args.f.now in
    let t = outer_fringe n f c.args.k in
    let end : c.loop-item.item ≡ n = omega (arith, c.loop-item-test.false, c.items-item-end.ensures.count) in
    c.loop-item.invariant ∙ ap (keep_before t) end ∙ below-all t n (outer-within n f c.args.k)
