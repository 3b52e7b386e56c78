use Rattle.std.proofs.Common.{◌∙◌, sym, ap, subst}
use Rattle.ls_set.specs.{IsWithin, full, has}
use Rattle.ls_set.proofs.Sets.{without-within}
use Rattle.ls_laws.proofs.Interiors.{interior-within}
use Rattle.ls_mesh.specs.Sides.{both}
use Rattle.ls_mesh.specs.Families.{BothState}
use Rattle.ls_mesh.proofs.Turns.{kept-inside, in-some}
use Rattle.ls_mesh.proofs.both.BothInside.inside_without.Goals as goal

pub inside_keeping-requires-clause-within : goal.inside_keeping-requires-clause-within
inside_keeping-requires-clause-within g c =
    let w =
    subst (λ (b : BothState _ _). IsWithin c.args.member (full (g.F.Inside.item_count b.left)))
    (sym c.self.view_is) c.requires.within in
    subst (λ t. IsWithin t (full (g.F.Inside.item_count c.self.inside.left.now)))
    (sym c.without.ensures) (λ i h. w i (without-within c.args.member c.args.item i h))

pub returns-clause-part : goal.returns-clause-part
returns-clause-part g c = in-some c.inside_keeping.result (λ k e.
    let f = g.F.Inside.members c.self.inside.left.now in
    let d = g.G.Inside.members c.self.inside.right.now in
    let own =
    kept-inside (both f d) c.without.result c.args.keep k c.inside_keeping.result
    c.inside_keeping.ensures e in
    λ i h.
    without-within c.args.member c.args.item i
    (ap (λ t. has t i) (sym c.without.ensures) ∙ interior-within (both f d) c.without.result i
    (ap (λ t. has t i) (sym own) ∙ h)))
