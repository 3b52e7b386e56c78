use Rattle.ls_base.proofs.Vocabulary.{◌∙◌, ap, has, has-empty, subst, sym, true≢false}
use Rattle.ls_base.proofs.OwnItems.{AreSingles, singles-more}
use Rattle.ls_base.proofs.own.single_items.Goals as goal
use Rattle.ls_base.proofs.own.single_items.Goals.{then-len-eq1, else-len-eq1}

pub loop-set-init : goal.loop-set-init
loop-set-init c = λ i h.
    absurd (true≢false (sym h ∙ ap (λ s. has s i) c.empty-singles.ensures ∙ has-empty i))

pub loop-set-preserved : goal.loop-set-preserved
loop-set-preserved c = elim c.if-len-eq1.branch [
  | then-len-eq1 w ↦
      singles-more c.loop-set.singles c.if-len-eq1.singles c.set-item.result c.args.sets.now
      c.loop-set.set-index c.loop-set-test.true c.set-item.is
      (sym c.len.ensures ∙ w.if-len-eq1.true) c.loop-set.invariant
      (w.singles-is ∙ w.union-singles.ensures)
  | else-len-eq1 w ↦
      subst (λ s. AreSingles s c.args.sets.now) (sym w.singles-is) c.loop-set.invariant
]
