use Rattle.ls_pupils.proofs.Vocabulary.{◌∙◌, Shown, ap, question_shown, shown_of, sym}
use Rattle.ls_pupils.proofs.Rows.{asked-same}
use Rattle.ls_meaning.specs.declared.response.Shown.TheVariants as shown
use Rattle.ls_pupils.proofs.asking.question.Goals as goal

pub returns-in-None : goal.returns-in-None
returns-in-None c = λ n are. ap (shown_of (question_shown n)) c.in-None.ensures.pupil

pub returns-in-Some : goal.returns-in-Some
returns-in-Some c = λ n are.
    let case = c.in-Some.case.now in
    ap (λ a. Shown (shown.Asked a))
    (c.question.ensures.value ∙ sym (asked-same n case (c.in-Some.ensures.case n are)))
    ∙ ap (shown_of (question_shown n)) c.in-Some.ensures.pupil
