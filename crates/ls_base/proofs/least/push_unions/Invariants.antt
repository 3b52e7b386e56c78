use Rattle.ls_base.proofs.Vocabulary.{◌++◌, ◌≡◌, filter, is_gained, map, take, union}
use Rattle.ls_base.proofs.least.push_unions.Given as goal

abbrev pub invariant-loop-other : goal.invariant-loop-other
invariant-loop-other l = l.gained.items ≡ l.initial.gained.items ++ filter (is_gained l.staying l.sets l.near) (map (union l.set) (take l.other-index l.near))
