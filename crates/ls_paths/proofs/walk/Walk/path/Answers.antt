use Rattle.ls_paths.proofs.Growths.{learning-from}
use Rattle.ls_paths.proofs.Levels.{whole-order}
use Rattle.ls_paths.proofs.Padding.{order-items}
use Rattle.ls_paths.proofs.walk.Walk.path.Goals as goal

pub returns-then-self-clause-order : goal.returns-then-self-clause-order
returns-then-self-clause-order g c =
    let n = g.F.Inside.item_count c.args.self.now.family.now in
    let f = g.F.Inside.members c.args.self.now.family.now in
    let learning = learning-from n f (g.met.F.Inside.is_family c.args.self.now.family.now).small c.args.self.now.learning in
    let order = whole-order n f c.args.self.now.order learning (c.args.self.now.whole c.if-self.true) in
    rw c.items.ensures order

pub returns-then-self-clause-items : goal.returns-then-self-clause-items
returns-then-self-clause-items g c =
    let n = g.F.Inside.item_count c.args.self.now.family.now in
    let f = g.F.Inside.members c.args.self.now.family.now in
    let learning = learning-from n f (g.met.F.Inside.is_family c.args.self.now.family.now).small c.args.self.now.learning in
    let order = whole-order n f c.args.self.now.order learning (c.args.self.now.whole c.if-self.true) in
    rw c.items.ensures (order-items n c.args.self.now.order order)
