use Rattle.ls_space.proofs.Vocabulary.{◌≡◌, IsWithin, Items, List, is_among, subst, take_all, true}
use Rattle.ls_space.proofs.Together.{whole-more}
use Rattle.ls_space.proofs.unions.whole_of.Goals as goal

pub loop-set-preserved : goal.loop-set-preserved
loop-set-preserved c = whole-more c.args.sets.now c.loop-set.set-index c.loop-set.whole c.set-item.result _ c.loop-set-test.true c.set-item.is c.loop-set.invariant c.union-whole.ensures

pub returns : goal.returns
returns c = subst (λ (g : List Items). (b : Items) → is_among g b ≡ true → IsWithin b c.loop-set.whole) (take_all c.loop-set.set-index c.args.sets.now c.loop-set-test.false) c.loop-set.invariant
