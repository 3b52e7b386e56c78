use Rattle.std.proofs.Common.{sym, ap, ◌∙◌, subst}
use Rattle.ls_set.specs.{IsWithin, full, meet, minus, union}
use Rattle.ls_set.proofs.Sets.{minus-within, union-within}
use Rattle.ls_theory.specs.{interior}
use Rattle.ls_clauses.proofs.Traces.{projection-interior}
use Rattle.ls_project.specs.Projecting.{TraceState}
use Rattle.ls_project.proofs.trace.TraceInside.inside.Goals as goal

pub inside-requires : goal.inside-requires
inside-requires g c =
    let n = g.F.Inside.item_count c.self.inside.inner.now in
    let all = c.full.ensures ∙ ap full c.items.ensures.count in
    let others = c.minus-others.ensures ∙ ap (λ w. minus w c.self.inside.part) all in
    let small = subst (λ (t : TraceState _). IsWithin c.args.s (full (g.F.Inside.item_count t.inner))) (sym c.self.view_is) c.requires in
    subst (λ w. IsWithin w (full n)) (sym (c.union.ensures ∙ ap (union c.args.s) others)) (union-within c.args.s (minus (full n) c.self.inside.part) (full n) small (minus-within (full n) c.self.inside.part))

pub returns : goal.returns
returns g c =
    let f = c.self.inside.inner.now in
    let n = g.F.Inside.item_count f in
    let p = c.self.inside.part in
    let members = g.F.Inside.members f in
    let family = g.met.F.Inside.is_family f in
    let wide = c.union.ensures ∙ ap (union c.args.s) (c.minus-others.ensures ∙ ap (λ w. minus w p) (c.full.ensures ∙ ap full c.items.ensures.count)) in
    rw (← c.self.view_is) (c.meet.ensures ∙ ap (meet p) (c.inside.ensures ∙ ap (interior members) wide) ∙ sym (projection-interior n p members c.args.s family.small))
