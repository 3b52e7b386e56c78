use Rattle.ls_space.proofs.Vocabulary.{AreTogether, IsGrown, Items, List}
use Rattle.ls_space.proofs.unions.grown.Given as goal

abbrev pub invariant-loop-item : goal.invariant-loop-item
invariant-loop-item l = (g : List Items) → AreTogether g l.together → IsGrown l.f.sets g l.set l.grown
