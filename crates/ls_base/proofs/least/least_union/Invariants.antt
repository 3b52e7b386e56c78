use Rattle.ls_base.proofs.Vocabulary.{◌≡◌, drop, least_size, map, union}
use Rattle.ls_base.proofs.least.least_union.Given as goal

-- the least so far, and the unions that are left, have the least of all
abbrev pub invariant-loop-other : goal.invariant-loop-other
invariant-loop-other l = least_size l.least (map (union l.set) (drop l.other-index l.near)) ≡ least_size l.most (map (union l.set) l.near)
