use Rattle.ls_expert.proofs.Vocabulary.{◌∙◌, ◌≡◌, Answer, IfOk, IfOk-weaker, Interview, List, Query, ap, eqb, filter, is_good, list_all, not, subst, true, yes_queries}
use Rattle.ls_standing.proofs.AnswerLists.{good-others}
use Rattle.ls_expert.proofs.inquiry.Inquiry.yes_others.Goals as goal

pub returns-clause-good : goal.returns-clause-good
returns-clause-good c =
    let n = c.self.inside.family.inner.item_count in
    let told = good-others (is_good n) c.args.number c.self.inside.answers.items c.self.invariant.held.standing.good in
    subst (λ (i : Interview). IfOk c.yes_others.result (λ v. list_all (is_good i.count) v.items ≡ true)) c.self.view_is
    (IfOk-weaker c.yes_others.result _ _
    (λ v e. ap (λ (l : List Query). list_all (is_good n) l) (e ∙ ap (λ (l : List Answer). yes_queries (filter (λ a. not (eqb a.number c.args.number)) l)) c.deref.ensures.value) ∙ told)
    c.yes_others.ensures)
