use Rattle.ls_infer.proofs.Vocabulary.{◌∙◌}
use Rattle.ls_infer.proofs.Questions.{next-told}
use Rattle.ls_infer.proofs.table.Table.next_unsettled.Goals as goal

pub returns : goal.returns
returns c = record { next = λ i sound count block table. c.first_open.ensures ∙ next-told i c.args.self.now.table _ sound count block table }
