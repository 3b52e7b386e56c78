use Rattle.ls_space.proofs.Vocabulary.{◌∙◌, is_same, sym}
use Rattle.ls_space.proofs.Adding.{at-place}
use Rattle.ls_space.proofs.unions.is_found.Goals as goal

pub returns-then-place-sets : goal.returns-then-place-sets
unfolding is_same
returns-then-place-sets c h =
    at-place c.args.sets.now c.moved-place.result c.index-sets-place.result c.args.set c.if-place-sets.true c.index-sets-place.is (sym c.eq.ensures ∙ h)
