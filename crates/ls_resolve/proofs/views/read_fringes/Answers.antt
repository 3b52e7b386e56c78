use Rattle.std.proofs.Common.{◌+◌, length}
use Rattle.ls_meaning.specs.{placed}
use Rattle.ls_resolve.proofs.Placing.{in_front}
use Rattle.ls_resolve.proofs.views.read_fringes.Goals as goal

pub returns-in-Err-clause-resolves : goal.returns-in-Err-clause-resolves
returns-in-Err-clause-resolves c =
    let inner = c.args.inner.now in
    in_front c.args.domain.now (placed 2 inner) (placed (length inner + 3) c.args.outer.now)
    c.in-Err.unnamed.place c.in-Err.ensures.resolves
