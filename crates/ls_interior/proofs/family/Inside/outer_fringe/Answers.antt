use Rattle.std.proofs.Common.{◌&&◌, ◌∙◌, ◌≡◌, ap, ap₂, arith, not, sym}
use Rattle.ls_set.specs.{keep_before, with}
use Rattle.ls_theory.specs.{outer_fringe}
use Rattle.ls_interior.proofs.Chosen.{below-all, below-left, below-start, below-taken, outer-has, outer-in, outer-within, with-within}
use Rattle.ls_interior.proofs.family.Inside.outer_fringe.Goals as goal
use Rattle.ls_interior.proofs.family.Inside.outer_fringe.Goals.{then-not-has+then-is_within, else-not-has, else-not-has-via-then-not-has+else-is_within, else-not-has-via-else-not-has}

pub loop-item-init : goal.loop-item-init
loop-item-init g c = below-start _ _ c.empty-fringe.ensures

pub inside-requires : goal.inside-requires
inside-requires g c =
    let n = g.Self.Inside.item_count c.args.self.now in
    rw c.with-more.ensures (with-within c.args.member c.loop-item.item n c.requires (omega arith))

pub loop-item-preserved : goal.loop-item-preserved
loop-item-preserved g c =
    let n = g.Self.Inside.item_count c.args.self.now in
    let f = g.Self.Inside.members c.args.self.now in
    let k = c.args.member in
    let i = c.loop-item.item in
    let t = outer_fringe n f k in
    let family = g.met.Self.Inside.is_family c.args.self.now in
    elim c.if-not-has.branch [
      | then-not-has+then-is_within w ↦
          let at = outer-has n f k c.with-more.result w.inside.result i w.is_within.result family c.with-more.ensures w.inside.ensures w.is_within.ensures in
          w.fringe-is ∙ w.with-fringe.ensures ∙ ap (λ s. with s i) c.loop-item.invariant
          ∙ below-taken t i (at ∙ ap₂ (λ a b. not a && b) (sym c.has.ensures ∙ w.if-not-has.true) w.if-is_within.true)
      | else-not-has w ↦
          w.fringe-is ∙ c.loop-item.invariant ∙ below-left t i (elim w.else-not-has.branch [
            | else-not-has-via-then-not-has+else-is_within v ↦
                let at = outer-has n f k c.with-more.result v.inside.result i v.is_within.result family c.with-more.ensures v.inside.ensures v.is_within.ensures in
                at ∙ ap₂ (λ a b. not a && b) (sym c.has.ensures ∙ v.if-not-has.true) v.if-is_within.false
            | else-not-has-via-else-not-has v ↦
                outer-in n f k i family (sym c.has.ensures ∙ v.if-not-has.false)
          ])
    ]

pub returns : goal.returns
returns g c =
    let n = g.Self.Inside.item_count c.args.self.now in
    let f = g.Self.Inside.members c.args.self.now in
    let t = outer_fringe n f c.args.member in
    let end : c.loop-item.item ≡ n = omega (arith, c.loop-item-test.false, c.items-item-end.ensures.count) in
    record { value = λ _. c.loop-item.invariant ∙ ap (keep_before t) end ∙ below-all t n (outer-within n f c.args.member) }
