use Rattle.ls_space.proofs.Vocabulary.{◌∙◌, Decides-is_same, ap, interior, is_same, sym, united-all, united-none, united-passed, united-taken, united-whole, within-unites}
use Rattle.ls_space.proofs.submembers.is_union_of.Goals as goal
use Rattle.ls_space.proofs.submembers.is_union_of.Goals.{then-is_within+else-eq, else-is_within}

pub loop-other-init : goal.loop-other-init
loop-other-init c = united-none (within-unites c.args.set) c.args.sets.now 0 c.empty-union.result c.empty-union.ensures

pub returns-then-eq : goal.returns-then-eq
unfolding is_same
returns-then-eq c =
    let whole = (Decides-is_same c.union-union.result c.args.set).0 (sym c.eq.ensures ∙ c.if-eq.true) in
    let is = united-whole (within-unites c.args.set) c.args.sets.now c.loop-other.other-index c.other-item.result c.loop-other.union c.union-union.result
    c.loop-other-test.true c.other-item.is c.loop-other.invariant (sym c.is_within.ensures ∙ c.if-is_within.true) c.union-union.ensures whole in
    sym ((Decides-is_same (interior c.args.sets.now c.args.set) c.args.set).1 (sym is ∙ whole))

pub loop-other-preserved : goal.loop-other-preserved
loop-other-preserved c = elim c.if-is_within.branch [
  | then-is_within+else-eq w ↦ united-taken (within-unites c.args.set) c.args.sets.now c.loop-other.other-index c.other-item.result c.loop-other.union _
      c.loop-other-test.true c.other-item.is c.loop-other.invariant (sym c.is_within.ensures ∙ w.if-is_within.true) (w.union-is ∙ w.union-union.ensures)
  | else-is_within w ↦ united-passed (within-unites c.args.set) c.args.sets.now c.loop-other.other-index c.other-item.result c.loop-other.union _
      c.loop-other-test.true c.other-item.is c.loop-other.invariant (sym c.is_within.ensures ∙ w.if-is_within.false) w.union-is
]

pub returns : goal.returns
unfolding is_same
returns c = c.eq-2.ensures ∙ ap (λ u. is_same u c.args.set) (united-all (within-unites c.args.set) c.args.sets.now c.loop-other.other-index c.loop-other.union c.loop-other-test.false c.loop-other.invariant)
