use Rattle.ls_base.proofs.Vocabulary.{◌++◌, ◌+◌, ◌∙◌, ◌∷◌, ◌≡◌, IsFollowed, [], ap, arith, length, length-take-le, subst, sym, take, take_more}
use Rattle.ls_base.proofs.Followings.{good_at}
use Rattle.ls_base.proofs.followed.Followed.over.Goals as goal

pub after_yes-requires : goal.after_yes-requires
after_yes-requires c =
    let r = c.index-yeses-place.result in
    c.loop-place.invariant.askable r (good_at c.args.first.item_count c.args.yeses.now c.loop-place.place r c.requires c.loop-place-test.true c.index-yeses-place.is)

pub loop-place-preserved : goal.loop-place-preserved
loop-place-preserved c =
    let n = c.args.first.item_count in
    let yeses = c.args.yeses.now in
    let place = c.loop-place.place in
    let r = c.index-yeses-place.result in
    let more = take_more yeses place r c.loop-place-test.true ∙ ap (λ s. take place yeses ++ s ∷ []) (sym c.index-yeses-place.is) in
    let told = c.in_ok-followed.ensures in
    let last : place + 1 ≡ length (take place yeses) + 1 = omega (arith, length-take-le place yeses (omega arith)) in
    record {
      followed = λ start is. subst (λ ys. IsFollowed n start ys c.in_ok-followed.followed) (sym more) (told.followed n start (take place yeses) (c.loop-place.invariant.followed start is) last);
      askable = λ s good. told.askable s (c.loop-place.invariant.askable s good);
    }
