use Rattle.ls_paths.proofs.Vocabulary.{◌∙◌, ◌≡◌, ap, arith, empty, full, is_grown, is_whole, grown_to, length, sym, take_all, true}
use Rattle.ls_paths.proofs.Growths.{learning-from}
use Rattle.ls_paths.proofs.Levels.{grown-fresh, whole-parts, whole-reaches}
use Rattle.ls_paths.proofs.Walks.{follows-path}
use Rattle.ls_paths.proofs.Written.{grown-members}
use Rattle.ls_paths.proofs.walk.Walk.advance.Goals as goal

pub leave-self-requires-clause-fresh : goal.leave-self-requires-clause-fresh
leave-self-requires-clause-fresh g c =
    let n = g.F.Inside.item_count c.args.self.now.family.now in
    let f = g.F.Inside.members c.args.self.now.family.now in
    let learning = learning-from n f (g.met.F.Inside.is_family c.args.self.now.family.now).small c.args.self.now.learning in
    let whole : is_whole n f c.args.self.now.order ≡ true = c.args.self.now.whole c.if-self.true in
    grown-fresh f empty c.args.self.now.order (whole-parts n f c.args.self.now.order whole).grown

pub leave-self-requires-clause-set : goal.leave-self-requires-clause-set
leave-self-requires-clause-set g c =
    let n = g.F.Inside.item_count c.args.self.now.family.now in
    let f = g.F.Inside.members c.args.self.now.family.now in
    let learning = learning-from n f (g.met.F.Inside.is_family c.args.self.now.family.now).small c.args.self.now.learning in
    let whole : is_whole n f c.args.self.now.order ≡ true = c.args.self.now.whole c.if-self.true in
    c.full.ensures ∙ ap full c.items-n.ensures.count ∙ sym (whole-reaches n f c.args.self.now.order learning whole) ∙ ap (grown_to empty) (sym (take_all c.items-n.result c.args.self.now.order (omega (arith, (whole-parts n f c.args.self.now.order whole).long, c.items-n.ensures.count))))

pub leave-self-requires-clause-members : goal.leave-self-requires-clause-members
leave-self-requires-clause-members g c =
    let n = g.F.Inside.item_count c.args.self.now.family.now in
    let f = g.F.Inside.members c.args.self.now.family.now in
    let order = c.args.self.now.order in
    let parts = whole-parts n f order (c.args.self.now.whole c.if-self.true) in
    λ j l. grown-members f empty order (length order) j (g.met.F.Inside.is_family c.args.self.now.family.now).holds_empty
    (ap (is_grown f empty) (take_all (length order) order (omega arith)) ∙ parts.grown) (omega (arith, parts.long, c.items-n.ensures.count))

pub invariant_of-self : goal.invariant_of-self
invariant_of-self g c =
    let n = g.F.Inside.item_count c.args.self.now.family.now in
    let f = g.F.Inside.members c.args.self.now.family.now in
    let learning = learning-from n f (g.met.F.Inside.is_family c.args.self.now.family.now).small c.args.self.now.learning in
    let whole : is_whole n f c.args.self.now.order ≡ true = c.args.self.now.whole c.if-self.true in
    let follow = follows-path n f c.items-n.result c.leave-self.result c.args.self.now.order c.leave-self.new.self _ learning whole c.items-n.ensures.count c.leave-self.ensures in
    record { learning = c.args.self.now.learning; whole = follow.whole }

pub returns-then-self-clause-left : goal.returns-then-self-clause-left
returns-then-self-clause-left g c =
    let n = g.F.Inside.item_count c.args.self.now.family.now in
    let f = g.F.Inside.members c.args.self.now.family.now in
    let learning = learning-from n f (g.met.F.Inside.is_family c.args.self.now.family.now).small c.args.self.now.learning in
    let whole : is_whole n f c.args.self.now.order ≡ true = c.args.self.now.whole c.if-self.true in
    let follow = follows-path n f c.items-n.result c.leave-self.result c.args.self.now.order c.leave-self.new.self _ learning whole c.items-n.ensures.count c.leave-self.ensures in
    rw c.if-self.true follow.left
