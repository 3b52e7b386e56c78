use Rattle.std.proofs.Common.{◌∙◌, sym, ap, subst}
use Rattle.ls_set.specs.{IsWithin, full, has, is_within}
use Rattle.ls_laws.proofs.Interiors.{interior-within}
use Rattle.ls_mesh.proofs.Turns.{lost-first}
use Rattle.ls_mesh.proofs.keeping.turned.Goals as goal

pub returns-then-not-is_within : goal.returns-then-not-is_within
returns-then-not-is_within g c =
    sym
    (lost-first (g.F.Inside.members c.args.left.now) (g.G.Inside.members c.args.right.now)
    c.args.set c.args.keep
    (ap (is_within c.args.keep) (sym c.inside-inside.ensures) ∙ sym c.is_within.ensures ∙
    c.if-not-is_within.true))

pub inside-next-requires : goal.inside-next-requires
inside-next-requires g c =
    subst (λ m. IsWithin c.inside-inside.result (full m)) (sym c.requires.same) (λ i h.
    c.requires.within i
    (interior-within (g.F.Inside.members c.args.left.now) c.args.set i
    (ap (λ t. has t i) (sym c.inside-inside.ensures) ∙ h)))
