use Rattle.ls_space.proofs.Vocabulary.{◌<◌, ◌∙◌, ◌≤◌, AreTogether, Items, List, ap, arith, get_or, length, subst, sym}
use Rattle.ls_space.proofs.Adding.{clean-found, clean-passed, clean-all}
use Rattle.ls_space.proofs.unions.first_lacking.Goals as goal

pub returns-then-lacks : goal.returns-then-lacks
returns-then-lacks c =
    let f = c.args.f.now.sets in
    let is = c.members-sets.ensures.sets in
    let l : c.loop-place.place < length f = omega (arith, c.loop-place-test.true, ap length is) in
    sym (clean-found f c.args.base.now c.members-sets.ensures.in_order c.loop-place.place c.index-sets-place.result c.grown-grown.result l
    (c.index-sets-place.is ∙ ap (λ (ss : List Items). get_or ss c.loop-place.place c.index-sets-place.result) is)
    c.loop-place.invariant (c.grown-grown.ensures c.args.base.now (subst (AreTogether c.args.base.now) (sym c.deref.ensures.value) c.in_ok-together.ensures.together)) (sym c.lacks.ensures ∙ c.if-lacks.true))

pub loop-place-preserved : goal.loop-place-preserved
loop-place-preserved c =
    let f = c.args.f.now.sets in
    let is = c.members-sets.ensures.sets in
    let l : c.loop-place.place < length f = omega (arith, c.loop-place-test.true, ap length is) in
    clean-passed f c.args.base.now c.members-sets.ensures.in_order c.loop-place.place c.index-sets-place.result c.grown-grown.result l
    (c.index-sets-place.is ∙ ap (λ (ss : List Items). get_or ss c.loop-place.place c.index-sets-place.result) is)
    c.loop-place.invariant (c.grown-grown.ensures c.args.base.now (subst (AreTogether c.args.base.now) (sym c.deref.ensures.value) c.in_ok-together.ensures.together)) (sym c.lacks.ensures ∙ c.if-lacks.false)

pub returns : goal.returns
returns c =
    let f = c.args.f.now.sets in
    let l : length f ≤ c.loop-place.place = omega (arith, c.loop-place-test.false, ap length c.members-sets.ensures.sets) in
    sym (clean-all f c.args.base.now c.loop-place.place l c.loop-place.invariant)
