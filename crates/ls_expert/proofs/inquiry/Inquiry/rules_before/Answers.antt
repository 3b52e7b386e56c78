use Rattle.ls_expert.proofs.Vocabulary.{◌∙◌, ◌≤◌, Answer, Interview, List, ap, length, rules_before, subst, sym, yes_queries}
use Rattle.ls_standing.proofs.AnswerLists.{rules_before-few}
use Rattle.ls_expert.proofs.inquiry.Inquiry.rules_before.Goals as goal

pub returns-clause-few : goal.returns-clause-few
returns-clause-few c =
    let is = c.rules_before.ensures ∙ ap (λ (l : List Answer). rules_before l c.args.number) c.deref.ensures.value in
    subst (λ (i : Interview). c.rules_before.result ≤ length (yes_queries i.answers)) c.self.view_is
    (subst (λ k. k ≤ length (yes_queries c.self.inside.answers.items)) (sym is) (rules_before-few c.args.number c.self.inside.answers.items))
