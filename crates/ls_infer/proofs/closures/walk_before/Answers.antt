use Rattle.ls_infer.proofs.Vocabulary.{◌<◌, ◌∙◌, ◌≡◌, ap, arith, empty-within, full, len-empty, length, block_sets, slice_get}
use Rattle.ls_infer.proofs.Places.{first_place, next_place, came-within}
use Rattle.ls_infer.proofs.closures.walk_before.Goals as goal

pub walk_from-walk-requires-clause-within : goal.walk_from-walk-requires-clause-within
walk_from-walk-requires-clause-within c = rw c.empty.ensures (empty-within (full c.args.blocks.item_count))

pub walk_from-walk-requires-clause-size : goal.walk_from-walk-requires-clause-size
walk_from-walk-requires-clause-size c = rw (c.empty.ensures, len-empty) (omega arith)

pub loop-passed-init : goal.loop-passed-init
loop-passed-init c = record {
  of_blocks = c.walk_from-walk.ensures.blocks;
  place = rw (c.walk_from-walk.ensures.set, c.empty.ensures) (first_place c.args.blocks.item_count c.args.blocks.largest);
}

pub loop-passed-preserved : goal.loop-passed-preserved
loop-passed-preserved c =
    let b = c.args.blocks in
    let i = c.loop-passed._passed in
    let v = c.loop-passed.invariant in
    let set = c.advance.new.self.set in
    let inside : i < length (block_sets b) = omega (arith, c.requires, c.loop-passed-test.true) in
    record {
      of_blocks = c.advance.ensures.blocks ∙ v.of_blocks;
      place = next_place b.item_count b.largest i set (came-within b c.loop-passed.walk.blocks i c.loop-passed.walk.set set c.advance.result v.of_blocks v.place c.advance.ensures.next inside);
    }

pub returns-clause-next : goal.returns-clause-next
returns-clause-next c =
    let all : c.loop-passed._passed ≡ c.args.place = omega arith in
    c.loop-passed.invariant.place ∙ ap (slice_get (block_sets c.args.blocks)) all
