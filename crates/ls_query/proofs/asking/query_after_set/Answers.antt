use Rattle.ls_query.proofs.Vocabulary.{◌∙◌, rules, sym}
use Rattle.ls_query.proofs.Passing.{find-after_set, find-full, find-none_after}
use Rattle.ls_query.proofs.asking.query_after_set.Goals as goal

pub returns-in_err-next : goal.returns-in_err-next
returns-in_err-next c = rw (find-none_after c.args.n c.args.k c.args.a (sym c.set_after.ensures ∙ c.in_err-next.was)) (search rules)

pub returns-in_err-q : goal.returns-in_err-q
returns-in_err-q c =
    rw (find-full c.args.n c.args.k c.args.a c.in_ok-next.next (sym c.set_after.ensures ∙ c.in_ok-next.was)
    (rw (← c.full.ensures, ← c.minus.ensures) (sym c.least.ensures.value ∙ c.in_err-q.was))) (search rules)

pub returns : goal.returns
returns c =
    sym (find-after_set c.args.n c.args.k c.args.a c.in_ok-next.next c.in_ok-q.q (sym c.set_after.ensures ∙ c.in_ok-next.was)
    (rw (← c.full.ensures, ← c.minus.ensures) (sym c.least.ensures.value ∙ c.in_ok-q.was)))
