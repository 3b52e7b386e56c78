use Rattle.ls_space.proofs.Vocabulary.{take}
use Rattle.ls_space.proofs.Adding.{IsClean}
use Rattle.ls_space.proofs.unions.first_lacking.Given as goal

abbrev pub invariant-loop-place : goal.invariant-loop-place
invariant-loop-place l = IsClean l.f.sets l.base (take l.place l.f.sets)
