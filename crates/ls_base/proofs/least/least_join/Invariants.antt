use Rattle.ls_base.proofs.Vocabulary.{◌≡◌, drop, joins, least_size}
use Rattle.ls_base.proofs.least.least_join.Given as goal

-- the least so far, and the joins that are left, have the least of all
abbrev pub invariant-loop-set : goal.invariant-loop-set
invariant-loop-set l = least_size l.least (joins (drop l.set-index l.sets) l.near) ≡ least_size l.initial.least (joins l.sets l.near)
