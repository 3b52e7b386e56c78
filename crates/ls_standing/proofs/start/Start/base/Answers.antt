use Rattle.ls_standing.proofs.Vocabulary.{◌∙◌, BaseState, IfOk-weaker, ap, base, sym}
use Rattle.ls_standing.proofs.Ruling.{free-base, sets-family}
use Rattle.ls_standing.proofs.start.Start.base.Goals as goal

pub returns-in-Free-clause-sets : goal.returns-in-Free-clause-sets
returns-in-Free-clause-sets c = rw c.in-Free.is (IfOk-weaker c.singletons.result _ _ (λ b h. ap (λ (x : BaseState). x.sets) h ∙ free-base c.args.n) c.singletons.ensures)

pub returns-in-Sets-clause-sets : goal.returns-in-Sets-clause-sets
returns-in-Sets-clause-sets c =
    IfOk-weaker c.copy.result _ _
    (λ b h. ap (λ (x : BaseState). x.sets) h ∙ sym c.sets.ensures.base ∙ ap base (sets-family c.args.self.now c.args.n c.in-Sets.base c.in-Sets.is c.requires.start.items))
    c.copy.ensures
