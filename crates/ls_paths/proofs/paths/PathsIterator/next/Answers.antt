use Rattle.ls_paths.proofs.Growths.{learning-from}
use Rattle.ls_paths.proofs.Levels.{whole-order}
use Rattle.ls_paths.proofs.paths.PathsIterator.next.Goals as goal

pub returns-clause-order : goal.returns-clause-order
returns-clause-order g c =
    let walk = c.args.self.now.walk in
    let n = g.F.Inside.item_count walk.family.now in
    let f = g.F.Inside.members walk.family.now in
    let learning = learning-from n f (g.met.F.Inside.is_family walk.family.now).small walk.learning in
    whole-order n f walk.order learning (walk.whole c.if-not-self.false)
