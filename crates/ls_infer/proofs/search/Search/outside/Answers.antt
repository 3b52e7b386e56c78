use Rattle.ls_infer.proofs.Vocabulary.{◌≡◌, ◌≤◌, ap, arith, blocks-in, len, len-empty, len-within, with}
use Rattle.ls_infer.proofs.Outside.{with-left, outside-of_within}
use Rattle.ls_infer.proofs.search.Search.outside.Goals as goal

pub outside_with-requires-clause-within : goal.outside_with-requires-clause-within
outside_with-requires-clause-within g c =
    let others = c.come_to.new.self.others in
    outside-of_within (g.I.Interior.item_count c.args.f.now) (g.I.Interior.members c.args.f.now) others.set others.items c.come_to.ensures.search.others.items

pub unreachable-requires : goal.unreachable-requires
unreachable-requires g c =
    let b = c.args.walk.now.blocks in
    let some = (blocks-in b.item_count b.largest c.args.walk.now.set c.requires.set).some in
    let none : len c.args.walk.now.set ≡ 0 = rw c.in-None.ensures.item len-empty in
    absurd (omega arith)

pub returns-clause-cost : goal.returns-clause-cost
returns-clause-cost g c =
    let b = c.args.walk.now.blocks in
    let x = blocks-in b.item_count b.largest c.args.walk.now.set c.requires.set in
    let fewer : len c.args.walk.now.others ≤ len c.args.walk.now.set = rw c.in-Some.ensures.item (len-within c.args.walk.now.others (with c.args.walk.now.others c.in-Some.item) (with-left c.args.walk.now.others c.in-Some.item)) in
    let come : len c.others.result ≡ len c.args.walk.now.others = ap len c.others.ensures.others in
    omega (arith, x.some, x.few, c.come_to.ensures.cost, c.outside_with.ensures.cost)
