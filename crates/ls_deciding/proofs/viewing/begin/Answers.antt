use Rattle.ls_deciding.proofs.Vocabulary.{[], ◌∙◌, IsTrail, ap, base, compat, subst, sym, yes_queries}
use Rattle.ls_deciding.proofs.viewing.begin.Goals as goal

pub returns-clause-trail : goal.returns-clause-trail
returns-clause-trail c =
    let i = c.args.inquiry.now in
    let items = c.in_ok-first.ensures.items in
    subst (λ n. IsTrail n i.start (yes_queries i.answers) c.begin.new.self) items
    (c.begin.ensures.trail i.start (yes_queries i.answers) (c.in_ok-first.ensures.sets ∙ ap (λ n. base (compat n i.start [])) (sym items)))
