use Rattle.ls_deciding.proofs.Vocabulary.{[], ◌∙◌, Interview, IsTrail, IsTrailOf, ap, base, compat, subst, sym, yes_queries}
use Rattle.ls_standing.specs.Starts.{start_of}
use Rattle.ls_deciding.proofs.starting.begin_with.Goals as goal

pub returns-in-Ok-clause-trail : goal.returns-in-Ok-clause-trail
returns-in-Ok-clause-trail g c =
    let i = c.args.inquiry.now in
    let start = start_of c.args.start in
    let items = c.in_ok-base.ensures.items ∙ c.items.ensures.count in
    let sets = c.in_ok-base.ensures.sets ∙ ap (λ n. base (compat n start [])) (sym c.in_ok-base.ensures.items) in
    subst (λ (j : Interview). IsTrailOf j c.begin.new.self) (sym c.in-Ok.ensures.ok)
    (subst (λ n. IsTrail n start (yes_queries i.answers) c.begin.new.self) items (c.begin.ensures.trail start (yes_queries i.answers) sets))
