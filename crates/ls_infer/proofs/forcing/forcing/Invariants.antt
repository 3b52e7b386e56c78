use Rattle.ls_infer.proofs.Vocabulary.{◌≡◌, None, drop, filter, forces, map}
use Rattle.ls_infer.proofs.Least.{least_with}
use Rattle.ls_infer.proofs.forcing.forcing.Given as goal

-- with those that are left it is the least of all that force the query
abbrev pub invariant-loop-s : goal.invariant-loop-s
invariant-loop-s l =
    least_with l.least (map (λ s. s.no.number) (filter (forces l.r) (drop l.s-index l.standing))) ≡ least_with None (map (λ s. s.no.number) (filter (forces l.r) l.standing))
