use Rattle.ls_deciding.proofs.Vocabulary.{AreAskable-good, IsTrail, subst, sym, yes_queries}
use Rattle.ls_deciding.proofs.viewing.follow.Goals as goal

pub follow-requires-clause-askable : goal.follow-requires-clause-askable
follow-requires-clause-askable c =
    let i = c.args.inquiry.now in
    AreAskable-good i.count i.start (yes_queries i.answers) c.yes_queries.result.now c.begin.new.trail c.begin.ensures.trail c.yes_queries.ensures.good

pub returns-clause-trail : goal.returns-clause-trail
returns-clause-trail c =
    let i = c.args.inquiry.now in
    let value = c.yes_queries.ensures.value in
    subst (λ ys. IsTrail i.count i.start ys c.follow.new.self) value
    (c.follow.ensures.trail i.count i.start (subst (λ ys. IsTrail i.count i.start ys c.begin.new.trail) (sym value) c.begin.ensures.trail))
