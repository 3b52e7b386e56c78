use Rattle.ls_rules.proofs.Vocabulary.{arith, good-from, several}
use Rattle.ls_rules.proofs.Alone.{several-within, has-alone}
use Rattle.ls_rules.proofs.Indexing.{room_for, room_within, IsIndexed-push}
use Rattle.ls_rules.proofs.Rounds.{below, first-within}
use Rattle.ls_rules.proofs.ruled.Ruled.push_reserved.Goals as goal

pub push-requires-clause-room : goal.push-requires-clause-room
push-requires-clause-room g c =
    let n = g.F.Inside.item_count c.self.inside.inner in
    let room = room_for n c.self.inside.starts c.self.inside.wakes _ (rw (← c.self.view_is) at c.requires.room) in
    let good = good-from n c.args.r (rw (← c.self.view_is) at c.requires.good) in
    λ i e.
    let here = room_within c.self.inside.starts i (room.2 i (below n c.args.r.a i good.small (has-alone c.args.r.a i e))) in
    omega (arith, here, c.self.invariant.singles_reach)

pub push-requires-clause-item : goal.push-requires-clause-item
push-requires-clause-item g c =
    let n = g.F.Inside.item_count c.self.inside.inner in
    let room = room_for n c.self.inside.starts c.self.inside.wakes _ (rw (← c.self.view_is) at c.requires.room) in
    let good = good-from n c.args.r (rw (← c.self.view_is) at c.requires.good) in
    let here = room_within c.self.inside.starts c.args.r.q (room.2 c.args.r.q good.item) in
    omega (arith, here, c.self.invariant.heads_reach, c.self.invariant.few_heads)

pub push-requires-2 : goal.push-requires-2
push-requires-2 g c =
    let n = g.F.Inside.item_count c.self.inside.inner in
    let room = room_for n c.self.inside.starts c.self.inside.wakes _ (rw (← c.self.view_is) at c.requires.room) in
    let good = good-from n c.args.r (rw (← c.self.view_is) at c.requires.good) in
    rw c.several-several.ensures (λ i h. room.1 i (below n c.args.r.a i good.small (several-within c.args.r.a i h)))

pub push-requires-3 : goal.push-requires-3
push-requires-3 g c =
    let n = g.F.Inside.item_count c.self.inside.inner in
    let room = room_for n c.self.inside.starts c.self.inside.wakes _ (rw (← c.self.view_is) at c.requires.room) in
    let good = good-from n c.args.r (rw (← c.self.view_is) at c.requires.good) in
    rw (c.first_of-first.ensures, c.several-several.ensures) (λ i h. room.2 i (below n c.args.r.a i good.small (several-within c.args.r.a i (first-within (several c.args.r.a) i h))))

pub push-requires-4-clause-room : goal.push-requires-4-clause-room
push-requires-4-clause-room g c =
    let n = g.F.Inside.item_count c.self.inside.inner in
    let room = room_for n c.self.inside.starts c.self.inside.wakes _ (rw (← c.self.view_is) at c.requires.room) in
    let good = good-from n c.args.r (rw (← c.self.view_is) at c.requires.good) in
    rw (c.first_of-first.ensures, c.several-several.ensures) (λ i h.
    let here = room_within c.self.inside.starts i (room.2 i (below n c.args.r.a i good.small (several-within c.args.r.a i (first-within (several c.args.r.a) i h)))) in
    omega (arith, here, c.self.invariant.heads_reach))

pub push-requires-4-clause-item : goal.push-requires-4-clause-item
push-requires-4-clause-item g c =
    let n = g.F.Inside.item_count c.self.inside.inner in
    let room = room_for n c.self.inside.starts c.self.inside.wakes _ (rw (← c.self.view_is) at c.requires.room) in
    let good = good-from n c.args.r (rw (← c.self.view_is) at c.requires.good) in
    let here = room_within c.self.inside.starts c.args.r.q (room.2 c.args.r.q good.item) in
    omega (arith, here, c.self.invariant.heads_reach, c.self.invariant.few_heads)

pub unwrap-requires : goal.unwrap-requires
unwrap-requires g c =
    let n = g.F.Inside.item_count c.self.inside.inner in
    let room = room_for n c.self.inside.starts c.self.inside.wakes _ (rw (← c.self.view_is) at c.requires.room) in
    c.push-5.ensures.succeeds (omega (arith, room.0))

pub invariant_of-self : goal.invariant_of-self
invariant_of-self g c =
    let n = g.F.Inside.item_count c.self.inside.inner in
    let s = c.self.inside in
    let good = rw (← c.self.view_is) at c.requires.good in
    let items = rw c.unwrap.ensures at c.push-5.ensures.items in
    rw items
    (IsIndexed-push n s.rules.items c.args.r c.several-several.result c.first_of-first.result c.len-place.result s.wakes s.starts c.push-2.new.self c.push-3.new.self s.singles c.push.new.self s.heads c.push-4.new.self c.self.invariant good
    c.several-several.ensures c.first_of-first.ensures (omega arith) c.push.ensures.sets c.push.ensures.len c.push-2.ensures.places c.push-2.ensures.len c.push-3.ensures.places c.push-3.ensures.len
    c.push-4.ensures.follows c.push-4.ensures.grows c.push-4.ensures.len)
