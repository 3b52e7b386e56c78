use Rattle.ls_pupils.proofs.Vocabulary.{Decides-is_same, is_same, slice_eq-Decides}
use Rattle.ls_pupils.proofs.beginning.are_same_sets.Goals as goal

pub returns : goal.returns
unfolding is_same
returns c = λ h. (slice_eq-Decides Decides-is_same c.args.own.now c.args.other.now c.eq.result c.eq.ensures).0 h
