use Rattle.ls_safe.proofs.Steps.{IsGoing}
use Rattle.ls_safe.proofs.turning.pass.Given as goal

-- those before the place were gone over
abbrev pub invariant-loop-place : goal.invariant-loop-place
invariant-loop-place l =
    IsGoing l.fn.b l.fn.answers.items l.answers.items l.witnesses.items l.place
