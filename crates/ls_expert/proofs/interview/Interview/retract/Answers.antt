use Rattle.std.proofs.Common.{◌∙◌, ◌≡◌, List, Some, ap, subst, sym}
use Rattle.ls_set.specs.declared.query.Query.{Query}
use Rattle.ls_theory.specs.{Interview, answer_with, yes_queries}
use Rattle.ls_base.specs.Followed.{IsFollowed}
use Rattle.ls_standing.proofs.AnswerLists.{yes_queries-without_no}
use Rattle.ls_expert.proofs.interview.Interview.retract.Goals as goal

pub invariant_of-self : goal.invariant_of-self
invariant_of-self g c =
    let i = c.self.inside.inquiry in
    let a = c.in-Some.answer in
    let followed = c.self.inside.followed in
    let stands : answer_with i a.number ≡ Some a = ap (answer_with i) c.in-Some.ensures.number ∙ sym c.in-Some.ensures.value in
    let same = yes_queries-without_no i a c.answer_with.ensures.standing.numbered stands c.if-answer.false in
    subst (λ (j : Interview). IsFollowed j.count j.start (yes_queries j.answers) followed) (sym c.take_back.ensures.ok)
    (subst (λ (l : List Query). IsFollowed i.count i.start l followed) (sym same) c.self.invariant)
