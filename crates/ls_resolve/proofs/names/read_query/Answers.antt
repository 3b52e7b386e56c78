use Rattle.std.proofs.Common.{◌+◌, ◌∷◌, [], length}
use Rattle.ls_meaning.specs.{placed}
use Rattle.ls_resolve.proofs.Placing.{in_front}
use Rattle.ls_resolve.proofs.names.read_query.Goals as goal

pub returns-in-Err : goal.returns-in-Err
returns-in-Err c =
    let names = c.args.names.now in
    in_front c.args.domain.now (placed 2 names) ((length names + 3, c.args.item.now) ∷ [])
    c.in-Err.unnamed.place c.in-Err.ensures.resolves
