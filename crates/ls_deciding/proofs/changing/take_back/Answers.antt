use Rattle.ls_deciding.proofs.Vocabulary.{◌∙◌, ◌≡◌, Interview, IsTrailOf, Some, answer_with, ap, retracted, rules_before, subst, sym, yes_queries}
use Rattle.ls_deciding.proofs.Trailed.{trail-without_no, first-kept}
use Rattle.ls_deciding.proofs.changing.take_back.Goals as goal
use Rattle.ls_deciding.proofs.changing.take_back.Goals.{then-answer, else-answer}

pub returns-in-Ok-clause-trail : goal.returns-in-Ok-clause-trail
returns-in-Ok-clause-trail g c =
    let i = c.args.inquiry.now in
    let a = c.in-Some.answer in
    let same : a.number ≡ c.args.number = c.in-Some.ensures.number in
    let stands : answer_with i a.number ≡ Some a = ap (answer_with i) same ∙ sym c.answer_with.ensures.value ∙ c.in-Some.is in
    let next = ap (retracted i) same ∙ sym c.in-Ok.ensures.ok in
    let after = retracted i a.number in
    let numbered = c.answer_with.ensures.standing.numbered in
    let kept : IsTrailOf after c.if-answer.trail = elim c.if-answer.branch [
      | then-answer w ↦ subst (IsTrailOf after) (sym w.trail-is)
          (w.give_up.ensures.trail i.count i.start (yes_queries i.answers) (yes_queries after.answers) c.requires
          (first-kept i a numbered stands w.rules_before.result w.if-answer.true (w.rules_before.ensures.value ∙ ap (rules_before i.answers) (sym same))))
      | else-answer w ↦ subst (IsTrailOf after) (sym w.trail-is) (trail-without_no i a numbered stands c.args.trail.now w.if-answer.false c.requires)
    ] in
    subst (λ (j : Interview). IsTrailOf j c.if-answer.trail) next kept
