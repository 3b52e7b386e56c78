use Rattle.ls_deciding.proofs.Vocabulary.{Interview, IsTrailOf, subst, sym}
use Rattle.ls_deciding.proofs.Trailed.{trail-accepted}
use Rattle.ls_deciding.proofs.changing.take.Goals as goal

pub returns-in-Ok-clause-trail : goal.returns-in-Ok-clause-trail
returns-in-Ok-clause-trail g c = λ t h.
    subst (λ (i : Interview). IsTrailOf i t) (sym c.in-Ok.ensures.ok) (trail-accepted c.args.inquiry.now c.args.query c.args.yes t h)
