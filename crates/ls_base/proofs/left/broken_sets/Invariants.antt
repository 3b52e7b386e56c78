use Rattle.ls_base.proofs.Vocabulary.{◌≡◌, breaks, broken_in, filter, map, take}
use Rattle.ls_base.proofs.left.broken_sets.Given as goal

abbrev pub invariant-loop-place : goal.invariant-loop-place
invariant-loop-place l =
    l.broken.items ≡ map (broken_in l.sets) (filter (λ k. breaks k l.r) (take l.place l.sets))
