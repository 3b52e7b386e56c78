use Rattle.ls_theory.specs.{interior}
use Rattle.ls_base.proofs.Turns.{IsUnited}
use Rattle.ls_mesh.proofs.unions.union_within.Given as goal

abbrev pub invariant-loop-set : goal.invariant-loop-set
invariant-loop-set l = IsUnited (λ g. interior g l.s) l.union l.sets l.set-index
