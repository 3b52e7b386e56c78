use Rattle.ls_base.proofs.Vocabulary.{◌∙◌, IsTrail, ap, given_up, subst, sym}
use Rattle.ls_base.proofs.Trails.{trail-given_up}
use Rattle.ls_base.proofs.trail.Trail.give_up.Goals as goal

pub returns-clause-trail : goal.returns-clause-trail
returns-clause-trail c = λ n start yeses others t same.
    let told = c.give_up_after.ensures ∙ ap (given_up c.args.count) c.self.view_is in
    subst (IsTrail n start others) (sym told) (trail-given_up n start yeses others c.args.self.now c.args.count t same)
