use Rattle.ls_space.proofs.Vocabulary.{refl}
use Rattle.ls_space.proofs.Passing.{next-told}
use Rattle.ls_space.proofs.submembers.is_union_of_next.Goals as goal

pub returns : goal.returns
returns c =
    next-told c.args.sets.now _ _ c.args.place c.min.result c.index-sets-place.result c.is_union_of.result c.requires c.index-sets-place.is refl c.min.ensures refl c.is_union_of.ensures
