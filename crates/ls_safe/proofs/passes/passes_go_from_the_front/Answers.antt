use Rattle.ls_safe.proofs.Turns.{applied-at, none-applied, tried-before, tried-at}
use Rattle.ls_safe.proofs.passes.passes_go_from_the_front.Goals as goal

pub returns : goal.returns
returns c =
    record
    { applied = applied-at; none = none-applied; tried_before = tried-before; tried_at = tried-at }
