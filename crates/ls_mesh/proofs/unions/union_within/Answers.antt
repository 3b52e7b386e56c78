use Rattle.std.proofs.Common.{◌∙◌, sym}
use Rattle.ls_set.specs.{is_same}
use Rattle.ls_set.proofs.Sets.{Decides-is_same}
use Rattle.ls_base.proofs.Turns.{united-none, united-taken, united-passed, united-whole, united-all}
use Rattle.ls_base.proofs.Below.{within-unites}
use Rattle.ls_mesh.proofs.unions.union_within.Goals as goal
use Rattle.ls_mesh.proofs.unions.union_within.Goals.{then-is_within+else-eq, else-is_within}

pub loop-set-init : goal.loop-set-init
loop-set-init c =
    united-none (within-unites c.args.s) c.args.sets.now 0 c.empty-union.result
    c.empty-union.ensures

pub returns-then-eq : goal.returns-then-eq
unfolding is_same
returns-then-eq c =
    let whole =
    (Decides-is_same c.union-union.result c.args.s).0 (sym c.eq.ensures ∙ c.if-eq.true) in
    united-whole (within-unites c.args.s) c.args.sets.now c.loop-set.set-index c.set-item.result
    c.loop-set.union c.union-union.result c.loop-set-test.true c.set-item.is
    c.loop-set.invariant (sym c.is_within.ensures ∙ c.if-is_within.true)
    c.union-union.ensures whole

pub loop-set-preserved : goal.loop-set-preserved
loop-set-preserved c = elim c.if-is_within.branch [
  | then-is_within+else-eq w ↦
      united-taken (within-unites c.args.s) c.args.sets.now c.loop-set.set-index c.set-item.result
      c.loop-set.union _ c.loop-set-test.true c.set-item.is c.loop-set.invariant
      (sym c.is_within.ensures ∙ w.if-is_within.true) (w.union-is ∙ w.union-union.ensures)
  | else-is_within w ↦
      united-passed (within-unites c.args.s) c.args.sets.now c.loop-set.set-index
      c.set-item.result c.loop-set.union _ c.loop-set-test.true c.set-item.is
      c.loop-set.invariant (sym c.is_within.ensures ∙ w.if-is_within.false) w.union-is
]

pub returns : goal.returns
returns c =
    united-all (within-unites c.args.s) c.args.sets.now c.loop-set.set-index c.loop-set.union
    c.loop-set-test.false c.loop-set.invariant
