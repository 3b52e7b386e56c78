use Rattle.ls_paths.proofs.Vocabulary.{◌+◌, arith, empty, get_or}
use Rattle.ls_paths.proofs.Written.{asked-of, grown-members, place-small, part-small, level-more, level-found, level-passed, level-end}
use Rattle.ls_paths.proofs.steps.first_level.Goals as goal

pub with-reached-requires : goal.with-reached-requires
with-reached-requires g c =
    let n = g.F.Inside.item_count c.args.f.now in
    omega (arith, place-small n c.args.order.now c.loop-place.place c.requires.small c.loop-place-test.true, c.items.ensures.count, c.items.ensures.few)

pub is_member-requires : goal.is_member-requires
is_member-requires g c =
    let n = g.F.Inside.item_count c.args.f.now in
    let order = c.args.order.now in
    let j = c.loop-place.place in
    rw (level-more order j c.loop-place.reached c.with-reached.result c.loop-place-test.true c.loop-place.invariant.set c.with-reached.ensures) (part-small n order (j + 1) c.requires.small)

pub returns-then-not-is_member : goal.returns-then-not-is_member
returns-then-not-is_member g c =
    let n = g.F.Inside.item_count c.args.f.now in
    let f = g.F.Inside.members c.args.f.now in
    let order = c.args.order.now in
    let j = c.loop-place.place in
    let more = level-more order j c.loop-place.reached c.with-reached.result c.loop-place-test.true c.loop-place.invariant.set c.with-reached.ensures in
    record {
      level = omega (arith, c.loop-place-test.true);
      set = more;
      small = rw more (part-small n order (j + 1) c.requires.small);
      members = λ i l. grown-members f empty order j i (g.met.F.Inside.is_family c.args.f.now).holds_empty c.loop-place.invariant.grown (omega arith);
      leaves = level-found n f order j c.loop-place.reached c.loop-place-test.true c.loop-place.invariant.grown c.loop-place.invariant.set (asked-of f c.loop-place.reached c.with-reached.result (get_or order j 0) c.is_member.result _ c.with-reached.ensures c.is_member.ensures c.if-not-is_member.true);
    }

pub loop-place-preserved : goal.loop-place-preserved
loop-place-preserved g c =
    let f = g.F.Inside.members c.args.f.now in
    let order = c.args.order.now in
    let j = c.loop-place.place in
    record {
      set = level-more order j c.loop-place.reached c.with-reached.result c.loop-place-test.true c.loop-place.invariant.set c.with-reached.ensures;
      grown = level-passed f order j c.loop-place.reached c.loop-place-test.true c.requires.fresh c.loop-place.invariant.grown c.loop-place.invariant.set (asked-of f c.loop-place.reached c.with-reached.result (get_or order j 0) c.is_member.result _ c.with-reached.ensures c.is_member.ensures c.if-not-is_member.false);
    }

pub returns-clause-members : goal.returns-clause-members
returns-clause-members g c = λ i l.
    grown-members (g.F.Inside.members c.args.f.now) empty c.args.order.now c.loop-place.place i (g.met.F.Inside.is_family c.args.f.now).holds_empty c.loop-place.invariant.grown (omega arith)

pub returns-clause-leaves : goal.returns-clause-leaves
returns-clause-leaves g c =
    level-end (g.F.Inside.item_count c.args.f.now) (g.F.Inside.members c.args.f.now) c.args.order.now c.loop-place.place (omega arith) c.loop-place.invariant.grown
