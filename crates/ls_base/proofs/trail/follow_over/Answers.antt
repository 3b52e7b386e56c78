use Rattle.ls_base.proofs.Vocabulary.{◌+◌, ◌∙◌, All, Entry, IfSome, IsAskable, ap, arith, option_map_or, refl, slice_get, slice_get_read, subst, sym}
use Rattle.ls_base.proofs.Trails.{trail-end}
use Rattle.ls_base.proofs.trail.follow_over.Goals as goal

pub returns-in_err-follow_next-clause-trail : goal.returns-in_err-follow_next-clause-trail
returns-in_err-follow_next-clause-trail c = λ n start t.
    let yeses = c.args.yeses.now in
    let v = c.loop-place.invariant in
    let at = ap (slice_get yeses) v.reached ∙ slice_get_read yeses _ c.loop-place.place c.index-yeses-place.result refl c.loop-place-test.true c.index-yeses-place.is in
    c.follow_next.ensures.trail n start yeses (v.trail n start t) at

pub loop-place-preserved : goal.loop-place-preserved
loop-place-preserved c =
    let yeses = c.args.yeses.now in
    let v = c.loop-place.invariant in
    let at = ap (slice_get yeses) v.reached ∙ slice_get_read yeses _ c.loop-place.place c.index-yeses-place.result refl c.loop-place-test.true c.index-yeses-place.is in
    record {
      trail = λ n start t. c.let_go.ensures.trail n start yeses (c.follow_next.ensures.trail n start yeses (v.trail n start t) at);
      askable = subst (λ o. IfSome o (λ (e : Entry). All (IsAskable e.followed) yeses)) (sym c.let_go.ensures.last) (c.follow_next.ensures.askable yeses v.askable);
      begins = c.let_go.ensures.begins ∙ c.follow_next.ensures.begins ∙ v.begins;
      begun = c.let_go.ensures.begun c.follow_next.ensures.begun;
      reached = ap (λ o. option_map_or (λ (e : Entry). e.last) o 0) c.let_go.ensures.last ∙ c.in_ok-follow_next.ensures.reached ∙ ap (λ m. m + 1) v.reached;
    }

pub returns-clause-followed : goal.returns-clause-followed
returns-clause-followed c = λ n start t.
    let v = c.loop-place.invariant in
    trail-end n start c.args.yeses.now c.loop-place.entries.items (v.trail n start t) v.begun (omega (arith, v.reached))
