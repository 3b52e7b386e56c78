use Rattle.ls_infer.proofs.Vocabulary.{◌∙◌}
use Rattle.ls_infer.proofs.KeptStates.{states-left}
use Rattle.ls_infer.proofs.table.Table.yes_added.Goals as goal

pub returns-clause-kept : goal.returns-clause-kept
returns-clause-kept g c = λ b before nos family left k.
    c.change.ensures.kept b before nos (family, left) (c.let_go.ensures.table ∙ k.table) (rw (left, c.let_go.ensures.witnesses) (states-left before c.args.r.now c.args.self.now.witnesses k.states))
