use Rattle.ls_space.proofs.Vocabulary.{IsUnited, interior}
use Rattle.ls_space.proofs.submembers.is_union_of.Given as goal

abbrev pub invariant-loop-other : goal.invariant-loop-other
invariant-loop-other l = IsUnited (λ g. interior g l.set) l.union l.sets l.other-index
