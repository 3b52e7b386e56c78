use Rattle.ls_expert.proofs.Vocabulary.{◌∙◌, ◌≡◌, Interview, ap, ap₂, eqb, interview_of, length, ltb, not, nos, rules, sym, vec_len}
use Rattle.ls_expert.proofs.Taking.{some-no, none-no, yes-unopposed}
use Rattle.ls_expert.proofs.inquiry.Inquiry.has_no.Goals as goal

pub returns-clause-value : goal.returns-clause-value
returns-clause-value c =
    let answers = c.self.inside.answers.items in
    let long : vec_len c.self.inside.answers ≡ length answers = search rules in
    ap₂ ltb (ap length (c.rules.ensures ∙ c.self.invariant.held.ruled)) (c.len.ensures ∙ long)
    ∙ some-no answers ∙ ap (λ (j : Interview). not (eqb (length (nos j.answers)) 0)) c.self.view_is

pub returns-clause-none : goal.returns-clause-none
returns-clause-none c = λ fewer.
    let i = interview_of c.self.inside.family.inner c.self.inside.block c.self.inside.answers.items c.self.inside.next in
    let none = none-no c.self.inside.answers.items (ap (λ (j : Interview). not (eqb (length (nos j.answers)) 0)) c.self.view_is ∙ sym (returns-clause-value c) ∙ fewer) in
    rw (← c.self.view_is) (λ r good. yes-unopposed i r c.self.invariant.held.standing.sound.some_fits good none)
