use Rattle.ls_query.proofs.Vocabulary.{◌≡◌, choose}
use Rattle.ls_query.proofs.placing.count_of_size.Given as goal

-- the sets of the size so far
abbrev pub invariant-loop-had : goal.invariant-loop-had
invariant-loop-had l = l.sets ≡ choose l.m l.had
