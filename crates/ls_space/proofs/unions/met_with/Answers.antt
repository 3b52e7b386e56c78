use Rattle.ls_space.proofs.Vocabulary.{◌∙◌, sym}
use Rattle.ls_space.proofs.Together.{met-none, met-alone, met-taken, met-passed, met-all}
use Rattle.ls_space.proofs.unions.met_with.Goals as goal
use Rattle.ls_space.proofs.unions.met_with.Goals.{then-has+else-eq, else-has}

pub loop-set-init : goal.loop-set-init
loop-set-init c = met-none c.args.item c.full-met.result c.requires c.full-met.ensures

pub loop-set-preserved : goal.loop-set-preserved
loop-set-preserved c = elim c.if-has.branch [
  | then-has+else-eq w ↦ met-taken c.args.sets.now c.loop-set.set-index c.args.item c.loop-set.met c.set-item.result _ c.loop-set-test.true c.set-item.is c.loop-set.invariant
      (sym c.has.ensures ∙ w.if-has.true) (w.met-is ∙ w.meet-met.ensures)
  | else-has w ↦ met-passed c.args.sets.now c.loop-set.set-index c.args.item c.loop-set.met c.set-item.result _ c.loop-set-test.true c.set-item.is c.loop-set.invariant
      (sym c.has.ensures ∙ w.if-has.false) w.met-is
]

pub returns : goal.returns
returns c = met-all c.args.sets.now c.loop-set.set-index c.args.item c.loop-set.met c.loop-set-test.false c.loop-set.invariant

pub returns-then-eq : goal.returns-then-eq
returns-then-eq c = met-alone c.args.sets.now c.args.item c.empty.result c.with-alone.result c.empty.ensures c.with-alone.ensures
