use Rattle.ls_expert.proofs.Vocabulary.{◌∙◌, Interview, None, ap, interview_of, next_question, sym}
use Rattle.ls_expert.proofs.Asking.{none-before_question}
use Rattle.ls_expert.proofs.inquiry.Inquiry.seek.Goals as goal

pub invariant_of-self : goal.invariant_of-self
invariant_of-self g c =
    let s = c.self.inside in
    let i = interview_of s.family.inner s.block s.answers.items s.next in
    let first = c.find_question-self-inside.ensures.value ∙ ap (λ (j : Interview). next_question j None) (sym c.self.view_is) in
    record {
      held = c.self.invariant.held;
      asked = c.self.invariant.asked;
      some_sizes = c.self.invariant.some_sizes;
      none_before = none-before_question i c.find_question-self-inside.result first;
      found = λ _. first;
    }
