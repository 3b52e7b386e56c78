use Rattle.ls_expert.proofs.Vocabulary.{◌∙◌, Interview, answer_with, ap, interview_of, retracted}
use Rattle.ls_expert.proofs.Asking.{asking}
use Rattle.ls_expert.proofs.Retracting.{held-without_no}
use Rattle.ls_expert.proofs.inquiry.Inquiry.take_back_no.Goals as goal

pub invariant_of-self : goal.invariant_of-self
invariant_of-self c =
    let i = interview_of c.self.inside.family.inner c.self.inside.block c.self.inside.answers.items c.self.inside.next in
    let a = c.args.answer.now in
    let held = c.self.invariant.held in
    let stands = ap (λ (j : Interview). answer_with j a.number) c.self.view_is ∙ c.requires.stands in
    rw c.take_out.ensures
    (asking (retracted i a.number) c.self.inside.blocks c.self.inside.family.rules c.no_removed.new.self c.next_query-self-inside.result
    (held-without_no i a c.self.inside.family.rules c.self.inside.table c.no_removed.new.self held stands c.requires.no c.no_removed.ensures.kept c.no_removed.ensures.witnesses)
    c.self.invariant.asked c.self.invariant.some_sizes c.next_query-self-inside.ensures)
