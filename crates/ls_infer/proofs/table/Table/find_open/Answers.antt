use Rattle.ls_infer.proofs.Vocabulary.{◌&&◌, ◌*◌, ◌+◌, ◌∙◌, ◌≡◌, ◌≤◌, ArePassing, None, Some, ap, arith, block_before, blocks-in, compatible_sets, find, full, is_open_by, least, looked_at, map, minus, nos, queries-in, block_queries, standing, subst, sym}
use Rattle.ls_infer.proofs.Looking.{first-one, owed-first, up_to}
use Rattle.ls_infer.proofs.Searching.{first-from, later-from, found_open}
use Rattle.ls_infer.proofs.table.Table.find_open.Goals as goal

pub walk_from-walk-requires-clause-within : goal.walk_from-walk-requires-clause-within
walk_from-walk-requires-clause-within g c = (queries-in c.args.blocks.item_count c.args.blocks.largest c.args.first.now c.requires.query).0.small

pub walk_from-walk-requires-clause-size : goal.walk_from-walk-requires-clause-size
walk_from-walk-requires-clause-size g c =
    let b = c.args.blocks in
    (blocks-in b.item_count b.largest c.args.first.now.a (queries-in b.item_count b.largest c.args.first.now c.requires.query).1).few

pub open_items-opens-requires-clause-set : goal.open_items-opens-requires-clause-set
open_items-opens-requires-clause-set g c =
    let b = c.args.blocks in
    rw (c.walk_from-walk.ensures.set, c.walk_from-walk.ensures.blocks) ((queries-in b.item_count b.largest c.args.first.now c.requires.query).1)

pub full-requires : goal.full-requires
full-requires g c =
    let item = (queries-in c.args.blocks.item_count c.args.blocks.largest c.args.first.now c.requires.query).0.item in
    omega (arith, c.requires.items, c.new-search.ensures.search.first.few)

pub returns-in-Some-clause-found : goal.returns-in-Some-clause-found
returns-in-Some-clause-found g c = λ i sound count block family table.
    let n = g.I.Interior.item_count c.args.f.now in
    let f = g.I.Interior.members c.args.f.now in
    let b = c.args.blocks in
    let r = c.args.first.now in
    let ss = c.standing-standing.result.now in
    let those = c.open_items-opens.result in
    let opens = subst (λ m. ArePassing m (is_open_by n f ss) r.a those) c.requires.items (subst (λ s. ArePassing n (is_open_by n f ss) s those) c.walk_from-walk.ensures.set c.open_items-opens.ensures.open) in
    let first : least (minus those (full r.q)) ≡ Some c.in-Some.q = ap least (sym (c.minus.ensures ∙ ap (minus those) c.full.ensures)) ∙ sym c.least.ensures.value ∙ c.in-Some.is in
    sym (first-from b.item_count b.largest (is_open_by n f ss) r those c.in-Some.q c.requires.query opens first)
    ∙ found_open i b n f ss r sound count block c.requires.items family
    (c.standing-standing.ensures ∙ ap (λ t. t.standing) table ∙ ap (λ m. map (standing m (compatible_sets i)) (nos i.answers)) (c.requires.own ∙ sym c.requires.items))

pub returns-in-None-clause-found : goal.returns-in-None-clause-found
returns-in-None-clause-found g c = λ i sound count block family table.
    let n = g.I.Interior.item_count c.args.f.now in
    let f = g.I.Interior.members c.args.f.now in
    let b = c.args.blocks in
    let r = c.args.first.now in
    let ss = c.standing-standing.result.now in
    let those = c.open_items-opens.result in
    let opens = subst (λ m. ArePassing m (is_open_by n f ss) r.a those) c.requires.items (subst (λ s. ArePassing n (is_open_by n f ss) s those) c.walk_from-walk.ensures.set c.open_items-opens.ensures.open) in
    let none : least (minus those (full r.q)) ≡ None = ap least (sym (c.minus.ensures ∙ ap (minus those) c.full.ensures)) ∙ sym c.least.ensures.value ∙ c.in-None.is in
    c.find_after.ensures.found
    ∙ ap (λ e. find (λ s. block_before e s.a && is_open_by n f ss s) (block_queries b)) c.walk_from-walk.ensures.set
    ∙ later-from b.item_count b.largest (is_open_by n f ss) r those c.requires.query opens none
    ∙ found_open i b n f ss r sound count block c.requires.items family
    (c.standing-standing.ensures ∙ ap (λ t. t.standing) table ∙ ap (λ m. map (standing m (compatible_sets i)) (nos i.answers)) (c.requires.own ∙ sym c.requires.items))

pub find_after-requires-clause-set : goal.find_after-requires-clause-set
find_after-requires-clause-set g c =
    let b = c.args.blocks in
    rw c.walk_from-walk.ensures.set ((queries-in b.item_count b.largest c.args.first.now c.requires.query).1)

-- the first set takes two interiors, and is one of those that are looked at
pub returns-in-Some-clause-cost : goal.returns-in-Some-clause-cost
returns-in-Some-clause-cost g c =
    let b = c.args.blocks in
    let r = c.args.first.now in
    let here = (queries-in b.item_count b.largest r c.requires.query).1 in
    let x = blocks-in b.item_count b.largest r.a here in
    let one = owed-first (b.largest + 1) c.args.steps.now (up_to b r.a r.a) (first-one b r.a here) in
    let two = c.open_items-opens.ensures.stays (c.new-search.ensures.others ∙ c.others.ensures.others) in
    omega (arith, x.some, x.few, c.new-search.ensures.cost)

pub returns-in-None-clause-cost : goal.returns-in-None-clause-cost
returns-in-None-clause-cost g c =
    let b = c.args.blocks in
    let r = c.args.first.now in
    let here = (queries-in b.item_count b.largest r c.requires.query).1 in
    let x = blocks-in b.item_count b.largest r.a here in
    let two = c.open_items-opens.ensures.stays (c.new-search.ensures.others ∙ c.others.ensures.others) in
    let all : c.find_after.new.steps + (b.largest + 1) ≤ c.open_items-opens.new.steps + (b.largest + 1) * looked_at b (Some r.a) c.find_after.result = subst (λ s. c.find_after.new.steps + (b.largest + 1) ≤ c.open_items-opens.new.steps + (b.largest + 1) * looked_at b (Some s) c.find_after.result) c.walk_from-walk.ensures.set c.find_after.ensures.cost in
    omega (arith, x.some, x.few, c.new-search.ensures.cost)
