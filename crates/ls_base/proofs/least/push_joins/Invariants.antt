use Rattle.ls_base.proofs.Vocabulary.{◌++◌, ◌≡◌, drop, filter, is_gained, joins}
use Rattle.ls_base.proofs.least.push_joins.Given as goal

-- what was appended, and the joins that are left, are all joins that are gained
abbrev pub invariant-loop-set : goal.invariant-loop-set
invariant-loop-set l = l.gained.items ++ filter (is_gained l.staying l.sets l.near) (joins (drop l.set-index l.sets) l.near) ≡ l.initial.gained.items ++ filter (is_gained l.staying l.sets l.near) (joins l.sets l.near)
