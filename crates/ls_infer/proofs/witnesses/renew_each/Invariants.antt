use Rattle.ls_infer.proofs.Vocabulary.{◌≡◌}
use Rattle.ls_infer.proofs.witnesses.renew_each.Given as goal

-- the states are those that were kept
abbrev pub invariant-loop-witnesses : goal.invariant-loop-witnesses
invariant-loop-witnesses l = l.kept ≡ l.initial.kept
