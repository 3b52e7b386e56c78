use Rattle.ls_infer.proofs.Vocabulary.{◌++◌, ◌∙◌, ◌∷◌, ◌≡◌, AreFirst, Some, [], ap, ap₂, arith, closure, empty-within, full, len-empty, length, map, mapped-next, block_sets, slice_get, subst, sym, take, take-none}
use Rattle.ls_infer.proofs.Places.{first_place, next_place, came-to, came-past}
use Rattle.ls_infer.proofs.Closing.{first-mapped}
use Rattle.ls_infer.proofs.closures.closures_of.Goals as goal

pub walk_from-walk-requires-clause-within : goal.walk_from-walk-requires-clause-within
walk_from-walk-requires-clause-within g c = rw c.empty.ensures (empty-within (full c.args.blocks.item_count))

pub walk_from-walk-requires-clause-size : goal.walk_from-walk-requires-clause-size
walk_from-walk-requires-clause-size g c = rw (c.empty.ensures, len-empty) (omega arith)

pub loop-place-init : goal.loop-place-init
loop-place-init g c = record {
  list = c.new-closures.ensures.items;
  of_blocks = c.walk_from-walk.ensures.blocks;
  place = rw (c.walk_from-walk.ensures.set, c.empty.ensures) (first_place c.args.blocks.item_count c.args.blocks.largest);
  kept = c.new-kept.ensures.kept c.args.blocks.item_count (g.I.Interior.members c.args.f.now);
  cost = omega arith;
}

pub returns-then-not-advance-clause-list : goal.returns-then-not-advance-clause-list
returns-then-not-advance-clause-list g c =
    let b = c.args.blocks in
    let v = c.loop-place.invariant in
    let none = came-past b c.loop-place.walk.blocks c.loop-place._place c.loop-place.walk.set c.advance.new.self.set c.advance.result v.of_blocks v.place c.advance.ensures.next c.if-not-advance.true in
    v.list ∙ ap (map (closure (full (g.I.Interior.item_count c.args.f.now)) (g.I.Interior.members c.args.f.now))) (take-none (block_sets b) c.loop-place._place none)

pub loop-place-preserved : goal.loop-place-preserved
loop-place-preserved g c =
    let b = c.args.blocks in
    let f = g.I.Interior.members c.args.f.now in
    let v = c.loop-place.invariant in
    let set = c.advance.new.self.set in
    let at : slice_get (block_sets b) c.loop-place._place ≡ Some set = came-to b c.loop-place.walk.blocks c.loop-place._place c.loop-place.walk.set set c.advance.result v.of_blocks v.place c.advance.ensures.next c.if-not-advance.false in
    let cl = closure (full (g.I.Interior.item_count c.args.f.now)) f in
    let first : AreFirst b.item_count f b c.loop-place.closures.items =
    subst (λ n. c.loop-place.closures.items ≡ map (closure (full n) f) (take (length c.loop-place.closures.items) (block_sets b))) c.requires (first-mapped cl (block_sets b) c.loop-place.closures.items c.loop-place._place v.list) in
    let given = subst (AreFirst b.item_count f b) (sym c.deref.ensures.value) first in
    record {
      list = c.in_ok-push.ensures.items ∙ ap₂ (λ l x. l ++ x ∷ []) v.list (c.close_block.ensures.value given v.kept) ∙ mapped-next cl (block_sets b) c.loop-place._place set at;
      of_blocks = c.advance.ensures.blocks ∙ v.of_blocks;
      place = next_place b.item_count b.largest c.loop-place._place set at;
      kept = c.close_block.ensures.kept given v.kept;
      cost = omega (arith, v.cost, c.close_block.ensures.cost);
    }
