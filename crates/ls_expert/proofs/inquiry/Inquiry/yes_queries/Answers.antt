use Rattle.ls_expert.proofs.Vocabulary.{◌∙◌, ◌≡◌, Interview, List, Query, ap, is_good, list_all, subst, true}
use Rattle.ls_standing.proofs.AnswerLists.{all-told}
use Rattle.ls_expert.proofs.inquiry.Inquiry.yes_queries.Goals as goal

pub returns-clause-good : goal.returns-clause-good
returns-clause-good c =
    let n = c.self.inside.family.inner.item_count in
    let told = all-told (is_good n) (λ a. a.yes) (λ a. a.query) c.self.inside.answers.items c.self.invariant.held.standing.good in
    subst (λ (i : Interview). list_all (is_good i.count) c.rules.result.now ≡ true) c.self.view_is
    (ap (λ (l : List Query). list_all (is_good n) l) (c.rules.ensures ∙ c.self.invariant.held.ruled) ∙ told)
