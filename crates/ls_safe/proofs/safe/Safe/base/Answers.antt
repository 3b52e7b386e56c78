use Rattle.std.proofs.Common.{◌∙◌, ap}
use Rattle.ls_safe.proofs.Interviews.{safe-base}
use Rattle.ls_safe.proofs.safe.Safe.base.Goals as goal

pub returns-clause-sets : goal.returns-clause-sets
returns-clause-sets c = λ n f queries i.
    ap (λ s. s.base.sets) c.self.view_is ∙ safe-base n f queries c.args.self.now i

pub returns-clause-items : goal.returns-clause-items
returns-clause-items c = λ n f queries i. ap (λ s. s.base.item_count) c.self.view_is ∙ i.items
