use Rattle.ls_space.proofs.Vocabulary.{◌<◌, ◌≤◌, arith, len, refl}
use Rattle.ls_space.proofs.Judging.{judged-double, judged-less, judged-passed, judged-told}
use Rattle.ls_space.proofs.gradation.judge.Goals as goal

pub own_items_but-own-requires-clause-needed : goal.own_items_but-own-requires-clause-needed
own_items_but-own-requires-clause-needed c =
    judged-less c.args.base.now c.requires.in_order c.requires.needed _ c.loop-place.place
    c.index-base-place.result c.loop-place-test.true c.index-base-place.is refl

pub own_items_but-own-requires-clause-known : goal.own_items_but-own-requires-clause-known
own_items_but-own-requires-clause-known c =
    judged-told c.args.base.now c.requires.in_order c.requires.needed _ c.loop-place.place
    c.index-base-place.result c.loop-place-test.true c.index-base-place.is refl
    c.single_items-singles.result c.single_items-singles.ensures

pub returns-then-len-gt1 : goal.returns-then-len-gt1
returns-then-len-gt1 c =
    let many : 1 < len c.own_items_but-own.result = omega (arith, c.len.ensures) in
    judged-double c.args.base.now c.requires.in_order c.requires.needed _ c.loop-place.place c.index-base-place.result c.loop-place-test.true c.index-base-place.is refl
    c.own_items_but-own.result c.own_items_but-own.ensures many c.loop-place.invariant c.not_graded.result c.not_graded.ensures

pub loop-place-preserved : goal.loop-place-preserved
loop-place-preserved c =
    let few : len c.own_items_but-own.result ≤ 1 = omega (arith, c.len.ensures) in
    judged-passed c.args.base.now c.requires.in_order c.requires.needed _ c.loop-place.place c.index-base-place.result c.loop-place-test.true c.index-base-place.is refl
    c.own_items_but-own.result c.own_items_but-own.ensures few c.loop-place.invariant
