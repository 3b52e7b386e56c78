use Rattle.std.proofs.Common.{◌∙◌, sym, ap, subst}
use Rattle.std.proofs.lemmas.Slice.Eq.{slice_eq-Decides}
use Rattle.ls_set.specs.ItemSet.{is_same}
use Rattle.ls_set.proofs.Sets.{Decides-is_same}
use Rattle.ls_theory.specs.Bases.{base}
use Rattle.ls_theory.specs.Projections.{projection}
use Rattle.ls_laws.specs.Spans.{spanned}
use Rattle.ls_mesh.specs.Meshed.{IsMeshOf}
use Rattle.ls_mesh.proofs.Meant.{agreed}
use Rattle.ls_mesh.proofs.mesh.Mesh.agree.Goals as goal

pub returns : goal.returns
unfolding is_same
returns c = λ n left right h.
    agreed n left right _ c.sets.result.now c.sets-2.result.now c.meet-shared.result c.eq.result
    (subst (IsMeshOf n left right) (sym c.self.view_is) h) c.meet-shared.ensures
    (c.sets.ensures.value ∙ c.in_ok-left.ensures.sets)
    (c.sets-2.ensures.value ∙ c.in_ok-right.ensures.sets ∙ ap
    (λ k. base (projection k c.meet-shared.result (spanned k c.self.inside.right.sets)))
    c.self.invariant)
    (slice_eq-Decides Decides-is_same c.sets.result.now c.sets-2.result.now c.eq.result
    c.eq.ensures)
