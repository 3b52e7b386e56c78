use Rattle.ls_base.proofs.Vocabulary.{IsTrail, subst, sym}
use Rattle.ls_base.proofs.trail.Trail.follow.Goals as goal

pub returns-clause-trail : goal.returns-clause-trail
returns-clause-trail c = λ n start t. c.follow_over.ensures.trail n start (subst (IsTrail n start c.args.yeses.now) (sym c.self.view_is) t)
