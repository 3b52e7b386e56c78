use Rattle.ls_infer.proofs.Vocabulary.{◌++◌, ◌≡◌, breaks, drop, filter, map, not, take}
use Rattle.ls_infer.proofs.witnesses.let_go_each.Given as goal

-- the states of the items so far are those that do not break the query, and the others are as they were
abbrev pub invariant-loop-witnesses : goal.invariant-loop-witnesses
invariant-loop-witnesses l = l.kept ≡ map (filter (λ k. not (breaks k l.r))) (take l.witnesses-index l.initial.kept) ++ drop l.witnesses-index l.initial.kept
