use Rattle.std.proofs.Common.{◌∙◌, subst, sym}
use Rattle.ls_set.specs.{IsWithin, full}
use Rattle.ls_base.specs.Bases.{BaseState}
use Rattle.ls_mesh.proofs.SetParts.{part-interior}
use Rattle.ls_mesh.proofs.unions.UnionsInside.inside.Goals as goal

pub returns : goal.returns
returns c =
    let u = c.self.inside in
    rw (← c.self.view_is)
    (c.union_within.ensures ∙ part-interior u.count u.sets.now c.args.s
    (subst (λ (b : BaseState). IsWithin c.args.s (full b.item_count)) (sym c.self.view_is)
    c.requires))
