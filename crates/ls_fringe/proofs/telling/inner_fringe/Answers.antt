use Rattle.ls_fringe.proofs.Vocabulary.{◌∙◌, IsIn, List, arith, inl, inner_fringe, refl, subst, sym, ℕ}
use Rattle.ls_fringe.proofs.Chosen.{Taking, Taking-done, Taking-first, Taking-passed, Taking-taken, inner-within, item-small}
use Rattle.ls_fringe.proofs.telling.inner_fringe.Goals as goal

pub loop-item-init : goal.loop-item-init
loop-item-init g c =
    let f = g.F.Inside.members c.args.f.now in
    rw (c.into_iter-item-iterator.ensures.into_iter_gives ∙ c.items-item-items.ensures, c.empty-fringe.ensures) (Taking-first (inner_fringe f c.args.k) c.args.k (inner-within f c.args.k))

pub is_inner-requires-clause-item : goal.is_inner-requires-clause-item
is_inner-requires-clause-item g c = c.loop-item.invariant.inside c.in-Some.item (subst (IsIn c.in-Some.item) (sym c.in-Some.ensures.steps) (inl refl))

pub is_inner-requires-clause-place : goal.is_inner-requires-clause-place
is_inner-requires-clause-place g c =
    let n = g.F.Inside.item_count c.args.f.now in
    let here = c.loop-item.invariant.inside c.in-Some.item (subst (IsIn c.in-Some.item) (sym c.in-Some.ensures.steps) (inl refl)) in
    omega (arith, item-small n c.in-Some.item (c.requires.within c.in-Some.item here), c.requires.few)

pub with-fringe-requires : goal.with-fringe-requires
with-fringe-requires g c =
    let n = g.F.Inside.item_count c.args.f.now in
    let here = c.loop-item.invariant.inside c.in-Some.item (subst (IsIn c.in-Some.item) (sym c.in-Some.ensures.steps) (inl refl)) in
    omega (arith, item-small n c.in-Some.item (c.requires.within c.in-Some.item here), c.requires.few)

pub loop-item-preserved-then-is_inner : goal.loop-item-preserved-then-is_inner
loop-item-preserved-then-is_inner g c =
    let f = g.F.Inside.members c.args.f.now in
    let t = inner_fringe f c.args.k in
    let so_far = subst (λ (left : List ℕ). Taking t c.args.k left c.loop-item.fringe) c.in-Some.ensures.steps c.loop-item.invariant in
    rw c.with-fringe.ensures (Taking-taken t c.args.k c.loop-item.fringe c.in-Some.item _ so_far (sym c.is_inner.ensures ∙ c.if-is_inner.true))

pub loop-item-preserved : goal.loop-item-preserved
loop-item-preserved g c =
    let f = g.F.Inside.members c.args.f.now in
    let t = inner_fringe f c.args.k in
    let so_far = subst (λ (left : List ℕ). Taking t c.args.k left c.loop-item.fringe) c.in-Some.ensures.steps c.loop-item.invariant in
    Taking-passed t c.args.k c.loop-item.fringe c.in-Some.item _ so_far (sym c.is_inner.ensures ∙ c.if-is_inner.false)

pub returns : goal.returns
returns g c =
    let f = g.F.Inside.members c.args.f.now in
    Taking-done (inner_fringe f c.args.k) c.args.k c.loop-item.fringe _ c.loop-item.invariant c.in-None.ensures.steps.0
