use Rattle.ls_fringe.proofs.Vocabulary.{◌&&◌, ◌∙◌, None, Some, ap, ap₂, cond, eqb, full, interior, minus, minus-within, sym}
use Rattle.ls_laws.proofs.Interiors.{interior-within}
use Rattle.ls_fringe.proofs.Told.{told}
use Rattle.ls_fringe.proofs.telling.state_of.Goals as goal
use Rattle.ls_fringe.proofs.telling.state_of.Goals.{else-eq-via-then-eq+else-eq-2, else-eq-via-else-eq}

pub inside-state-requires : goal.inside-state-requires
inside-state-requires g c = rw (c.minus.ensures, c.full.ensures, c.items.ensures.count) (minus-within _ c.args.outer)

pub fringes-told-requires : goal.fringes-told-requires
fringes-told-requires g c =
    let f = g.F.Inside.members c.args.f.now in
    let n = g.F.Inside.item_count c.args.f.now in
    let at = c.inside-state.ensures ∙ ap (interior f) (c.minus.ensures ∙ ap (λ s. minus s c.args.outer) (c.full.ensures ∙ ap full c.items.ensures.count)) in
    rw at (λ i h. minus-within (full n) c.args.outer i (interior-within f (minus (full n) c.args.outer) i h))

pub returns-then-eq-2 : goal.returns-then-eq-2
returns-then-eq-2 g c =
    let f = g.F.Inside.members c.args.f.now in
    let n = g.F.Inside.item_count c.args.f.now in
    let small = (g.met.F.Inside.is_family c.args.f.now).small in
    let at = c.inside-state.ensures ∙ ap (interior f) (c.minus.ensures ∙ ap (λ s. minus s c.args.outer) (c.full.ensures ∙ ap full c.items.ensures.count)) in
    ap₂ (λ a b. cond (a && b) (Some c.inside-state.result) None) (sym (sym c.eq.ensures ∙ c.if-eq.true)) (sym (sym c.eq-then-eq.ensures ∙ c.if-eq-2.true))
    ∙ told n f c.args.inner c.args.outer c.inside-state.result c.fringes-told.result small c.requires at c.fringes-told.ensures

pub returns-else-eq : goal.returns-else-eq
returns-else-eq g c =
    let f = g.F.Inside.members c.args.f.now in
    let n = g.F.Inside.item_count c.args.f.now in
    let small = (g.met.F.Inside.is_family c.args.f.now).small in
    let at = c.inside-state.ensures ∙ ap (interior f) (c.minus.ensures ∙ ap (λ s. minus s c.args.outer) (c.full.ensures ∙ ap full c.items.ensures.count)) in
    let is = told n f c.args.inner c.args.outer c.inside-state.result c.fringes-told.result small c.requires at c.fringes-told.ensures in
    elim c.else-eq.branch [
      | else-eq-via-then-eq+else-eq-2 w ↦
          ap₂ (λ a b. cond (a && b) (Some c.inside-state.result) None) (sym (sym c.eq.ensures ∙ w.if-eq.true)) (sym (sym w.eq-then-eq.ensures ∙ w.if-eq-2.false)) ∙ is
      | else-eq-via-else-eq w ↦
          ap (λ a. cond (a && eqb c.fringes-told.result.outer.digits c.args.outer.digits) (Some c.inside-state.result) None) (sym (sym c.eq.ensures ∙ w.if-eq.false)) ∙ is
    ]
