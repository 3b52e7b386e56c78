use Rattle.ls_standing.proofs.Vocabulary.{◌∙◌, ap, minus}
use Rattle.ls_standing.proofs.Ruling.{free-added, sets-outer}
use Rattle.ls_standing.proofs.start.Start.outer_fringe.Goals as goal

pub returns-in-Free : goal.returns-in-Free
returns-in-Free c = rw c.in-Free.is (λ m. c.minus.ensures ∙ ap (λ s. minus s c.args.member) c.full.ensures ∙ free-added c.args.n c.args.member m)

pub returns-in-Sets : goal.returns-in-Sets
returns-in-Sets c = sets-outer c.args.self.now c.args.n c.in-Sets.base c.args.member _ c.in-Sets.is c.requires.start.items c.outer_fringe-in-Sets.ensures.value
