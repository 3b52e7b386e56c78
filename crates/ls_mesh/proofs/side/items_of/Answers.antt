use Rattle.std.proofs.Common.{◌∙◌, ap}
use Rattle.ls_theory.specs.{interior}
use Rattle.ls_mesh.proofs.Sides.{part-whole}
use Rattle.ls_mesh.proofs.side.items_of.Goals as goal

pub returns : goal.returns
returns c =
    c.union_within.ensures ∙ ap (interior c.args.sets.now) c.full.ensures
    ∙ part-whole c.args.n c.args.sets.now c.requires.on
