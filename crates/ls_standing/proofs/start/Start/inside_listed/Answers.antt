use Rattle.ls_standing.proofs.Vocabulary.{◌∙◌, Items, List, ap, interior}
use Rattle.ls_standing.proofs.Ruling.{free-inside, sets-family}
use Rattle.ls_standing.proofs.start.Start.inside_listed.Goals as goal

pub returns-in-Free : goal.returns-in-Free
returns-in-Free c = rw c.in-Free.is (free-inside c.args.n c.args.s c.requires.within)

pub returns-in-Sets : goal.returns-in-Sets
returns-in-Sets c =
    c.inside-in-Sets.ensures ∙ ap (λ (f : List Items). interior f c.args.s) (sets-family c.args.self.now c.args.n c.in-Sets.base c.in-Sets.is c.requires.start.items)
