use Rattle.ls_infer.proofs.Vocabulary.{◌&&◌, ◌∙◌, ◌≡◌, ArePassing, None, Some, ap, arith, block_before, empty-within, find, full, get-in, good-from, is_open_in, is_same, len-empty, next-passing, passing-all, passing-later, passing-outside, position, position-get, block_queries, block_sets, slice_get, subst, sym}
use Rattle.ls_infer.proofs.Places.{first_place, next_place, place-within, place-few}
use Rattle.ls_infer.proofs.table.Table.first_open.Goals as goal

pub walk_from-requires-clause-within : goal.walk_from-requires-clause-within
walk_from-requires-clause-within c = rw c.empty.ensures (empty-within (full c.self.inside.blocks.item_count))

pub walk_from-requires-clause-size : goal.walk_from-requires-clause-size
walk_from-requires-clause-size c = rw (c.empty.ensures, len-empty) (omega arith)

pub open_from-requires-clause-place : goal.open_from-requires-clause-place
open_from-requires-clause-place c = rw (c.walk_from.ensures.set, c.empty.ensures) (first_place c.args.self.now.table.blocks.item_count c.args.self.now.table.blocks.largest)

pub returns-in_default : goal.returns-in_default
returns-in_default c =
    let t = c.args.self.now.table in
    rw c.in_default.is
    (c.open_from.ensures ∙ ap (λ e. find (λ s. block_before e s.a && is_open_in t s) (block_queries t.blocks)) (c.walk_from.ensures.set ∙ c.empty.ensures)
    ∙ passing-all t.blocks.item_count t.blocks.largest (is_open_in t))

pub returns-in_err-place : goal.returns-in_err-place
returns-in_err-place c =
    let t = c.args.self.now.table in
    let r = c.in-Some.r.now in
    let out : position (is_same r.a) (block_sets t.blocks) ≡ None = ap (λ u. position (is_same r.a) (block_sets u.table.blocks)) (sym c.self.view_is) ∙ sym c.place_of.ensures ∙ c.in_err-place.was in
    rw (c.in-Some.is, c.from_residual.ensures)
    (sym (passing-outside t.blocks.item_count t.blocks.largest (is_open_in t) r (good-from t.blocks.item_count r (c.requires c.in-Some.r c.in-Some.is)) out))

pub walk_from-walk-requires-clause-within : goal.walk_from-walk-requires-clause-within
walk_from-walk-requires-clause-within c =
    let b = c.self.inside.blocks in
    let a = c.in-Some.r.now.a in
    place-within b.item_count b.largest c.in_ok-place.place a (position-get b.item_count b.largest a c.in_ok-place.place (sym c.place_of.ensures ∙ c.in_ok-place.was))

pub walk_from-walk-requires-clause-size : goal.walk_from-walk-requires-clause-size
walk_from-walk-requires-clause-size c =
    let b = c.self.inside.blocks in
    let a = c.in-Some.r.now.a in
    place-few b.item_count b.largest c.in_ok-place.place a (position-get b.item_count b.largest a c.in_ok-place.place (sym c.place_of.ensures ∙ c.in_ok-place.was))

pub open_items-requires : goal.open_items-requires
open_items-requires c =
    let t = c.args.self.now.table in
    let a = c.in-Some.r.now.a in
    position-get t.blocks.item_count t.blocks.largest a c.in_ok-place.place (ap (λ u. position (is_same a) (block_sets u.table.blocks)) (sym c.self.view_is) ∙ sym c.place_of.ensures ∙ c.in_ok-place.was)
    ∙ ap Some (sym c.walk_from-walk.ensures.set)

pub open_from-requires-in-None-clause-place : goal.open_from-requires-in-None-clause-place
open_from-requires-in-None-clause-place c =
    let t = c.args.self.now.table in
    let a = c.in-Some.r.now.a in
    rw c.walk_from-walk.ensures.set
    (next_place t.blocks.item_count t.blocks.largest c.in_ok-place.place a
    (position-get t.blocks.item_count t.blocks.largest a c.in_ok-place.place (ap (λ u. position (is_same a) (block_sets u.table.blocks)) (sym c.self.view_is) ∙ sym c.place_of.ensures ∙ c.in_ok-place.was)))

pub returns-in-Some-next_member : goal.returns-in-Some-next_member
returns-in-Some-next_member c =
    let t = c.args.self.now.table in
    let r = c.in-Some.r.now in
    let here : slice_get (block_sets t.blocks) c.in_ok-place.place ≡ Some r.a =
    position-get t.blocks.item_count t.blocks.largest r.a c.in_ok-place.place (ap (λ u. position (is_same r.a) (block_sets u.table.blocks)) (sym c.self.view_is) ∙ sym c.place_of.ensures ∙ c.in_ok-place.was) in
    let opens = subst (λ s. ArePassing t.blocks.item_count (is_open_in t) s c.open_items.result) c.walk_from-walk.ensures.set c.open_items.ensures in
    rw c.in-Some.is
    (sym (next-passing t.blocks.item_count t.blocks.largest (is_open_in t) r c.open_items.result c.in-Some-next_member.q (get-in (block_sets t.blocks) c.in_ok-place.place r.a here) opens (sym c.next_member.ensures.value ∙ c.in-Some-next_member.is)))

pub returns-in-None : goal.returns-in-None
returns-in-None c =
    let t = c.args.self.now.table in
    let r = c.in-Some.r.now in
    let opens = subst (λ s. ArePassing t.blocks.item_count (is_open_in t) s c.open_items.result) c.walk_from-walk.ensures.set c.open_items.ensures in
    rw c.in-Some.is
    (c.open_from-in-None.ensures ∙ ap (λ e. find (λ s. block_before e s.a && is_open_in t s) (block_queries t.blocks)) c.walk_from-walk.ensures.set
    ∙ passing-later t.blocks.item_count t.blocks.largest (is_open_in t) r c.open_items.result opens (sym c.next_member.ensures.value ∙ c.in-None.is))
