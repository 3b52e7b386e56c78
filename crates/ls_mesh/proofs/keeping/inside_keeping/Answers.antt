use Rattle.std.proofs.Common.{◌≡◌, ◌<◌, ◌∙◌, sym, ap, subst, refl, true}
use Rattle.ls_set.specs.{IsWithin, full, is_within, len}
use Rattle.ls_theory.specs.{interior}
use Rattle.ls_laws.specs.Families.{IsFamily}
use Rattle.ls_mesh.specs.Sides.{both}
use Rattle.ls_mesh.proofs.Turns.{turn-within, turn-same, turn-fewer, kept-end, lost, kept}
use Rattle.ls_mesh.proofs.Turns.{other-sets, same-sets}
use Rattle.ls_mesh.proofs.keeping.inside_keeping.Goals as goal

pub returns-in_err-next : goal.returns-in_err-next
returns-in_err-next g c =
    let n = g.F.Inside.item_count c.args.left.now in
    let f = g.F.Inside.members c.args.left.now in
    let d = g.G.Inside.members c.args.right.now in
    c.from_residual.ensures ∙ lost n f d (g.met.F.Inside.is_family c.args.left.now)
    (subst (λ m. IsFamily m d) c.requires.same (g.met.G.Inside.is_family c.args.right.now))
    c.args.s c.args.s c.args.keep c.turned.result refl c.turned.ensures c.in_err-next.was

pub loop-set-init : goal.loop-set-init
loop-set-init g c =
    let n = g.F.Inside.item_count c.args.left.now in
    let f = g.F.Inside.members c.args.left.now in
    let d = g.G.Inside.members c.args.right.now in
    let k =
    kept n f d (g.met.F.Inside.is_family c.args.left.now)
    (subst (λ m. IsFamily m d) c.requires.same (g.met.G.Inside.is_family c.args.right.now))
    c.args.s c.args.keep c.turned.result c.in_ok-next.next c.turned.ensures c.in_ok-next.was in
    record { within = c.requires.within; same = refl; next = k.0; kept = k.1 }

pub turned-requires-in-loop-set-clause-within : goal.turned-requires-in-loop-set-clause-within
turned-requires-in-loop-set-clause-within g c =
    let n = g.F.Inside.item_count c.args.left.now in
    let f = g.F.Inside.members c.args.left.now in
    let d = g.G.Inside.members c.args.right.now in
    let i = c.loop-set.invariant in
    subst (λ t. IsWithin t (full n)) (sym i.next) (λ j h. i.within j
    (turn-within n f d (g.met.F.Inside.is_family c.args.left.now)
    (subst (λ m. IsFamily m d) c.requires.same (g.met.G.Inside.is_family c.args.right.now))
    c.loop-set.set j h))

pub returns-in_err-next-2 : goal.returns-in_err-next-2
returns-in_err-next-2 g c =
    let n = g.F.Inside.item_count c.args.left.now in
    let f = g.F.Inside.members c.args.left.now in
    let d = g.G.Inside.members c.args.right.now in
    let i = c.loop-set.invariant in
    let a = g.met.F.Inside.is_family c.args.left.now in
    let b : IsFamily n d =
    subst (λ m. IsFamily m d) c.requires.same (g.met.G.Inside.is_family c.args.right.now) in
    let same = ap (interior (both f d)) i.next ∙ turn-same n f d a b c.loop-set.set ∙ i.same in
    c.from_residual-in_err-next-2.ensures ∙ lost n f d a b c.args.s c.loop-set.next c.args.keep
    c.turned-in-loop-set.result same c.turned-in-loop-set.ensures c.in_err-next-2.was

pub loop-set-smaller : goal.loop-set-smaller
loop-set-smaller g c =
    let n = g.F.Inside.item_count c.args.left.now in
    let f = g.F.Inside.members c.args.left.now in
    let d = g.G.Inside.members c.args.right.now in
    let i = c.loop-set.invariant in
    let other =
    other-sets c.loop-set.next c.loop-set.set (sym c.ne.ensures ∙ c.loop-set-test.true) in
    subst (λ t. len t < len c.loop-set.set) (sym i.next)
    (turn-fewer n f d (g.met.F.Inside.is_family c.args.left.now)
    (subst (λ m. IsFamily m d) c.requires.same (g.met.G.Inside.is_family c.args.right.now))
    c.loop-set.set (λ e. other (i.next ∙ e)))

pub loop-set-preserved : goal.loop-set-preserved
loop-set-preserved g c =
    let n = g.F.Inside.item_count c.args.left.now in
    let f = g.F.Inside.members c.args.left.now in
    let d = g.G.Inside.members c.args.right.now in
    let i = c.loop-set.invariant in
    let a = g.met.F.Inside.is_family c.args.left.now in
    let b : IsFamily n d =
    subst (λ m. IsFamily m d) c.requires.same (g.met.G.Inside.is_family c.args.right.now) in
    let k =
    kept n f d a b c.loop-set.next c.args.keep c.turned-in-loop-set.result
    c.in_ok-next-2.next c.turned-in-loop-set.ensures c.in_ok-next-2.was in
    record {
      within =
          subst (λ t. IsWithin t (full n)) (sym i.next)
          (λ j h. i.within j (turn-within n f d a b c.loop-set.set j h));
      same = ap (interior (both f d)) i.next ∙ turn-same n f d a b c.loop-set.set ∙ i.same;
      next = k.0;
      kept = k.1;
    }

pub returns : goal.returns
returns g c =
    let n = g.F.Inside.item_count c.args.left.now in
    let f = g.F.Inside.members c.args.left.now in
    let d = g.G.Inside.members c.args.right.now in
    let i = c.loop-set.invariant in
    let here =
    same-sets c.loop-set.next c.loop-set.set (sym c.ne.ensures ∙ c.loop-set-test.false) in
    kept-end n f d (g.met.F.Inside.is_family c.args.left.now)
    (subst (λ m. IsFamily m d) c.requires.same (g.met.G.Inside.is_family c.args.right.now))
    c.args.s c.loop-set.set c.args.keep i.same (sym i.next ∙ here)
    (subst (λ t. is_within c.args.keep t ≡ true) here i.kept)
