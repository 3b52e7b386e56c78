use Rattle.ls_expert.proofs.Vocabulary.{◌∙◌, settles, sym}
use Rattle.ls_expert.proofs.Ruling.{settled-is}
use Rattle.ls_expert.proofs.inquiry.Inquiry.settled.Goals as goal

pub returns-clause-value : goal.returns-clause-value
returns-clause-value c = settled-is c.args.self.now c.next_question.result c.is_none.result c.next_question.ensures.value c.is_none.ensures

pub returns-clause-one : goal.returns-clause-one
returns-clause-one c = λ e wide. settles c.args.self.now c.standing.ensures.standing.sound.some_fits wide (sym (returns-clause-value c) ∙ e)
