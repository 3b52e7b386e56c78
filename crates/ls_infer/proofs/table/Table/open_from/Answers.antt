use Rattle.ls_infer.proofs.Vocabulary.{◌<◌, ◌∙◌, ◌≡◌, ◌≤◌, Some, ap, arith, asked_of, block_before, find, first-passing, is_open_in, length, none-passing, passing-end, block_sets, slice_get, slice_get_past, sym}
use Rattle.ls_infer.proofs.Places.{next_place, came-within}
use Rattle.ls_infer.proofs.table.Table.open_from.Goals as goal

pub returns-in-Some : goal.returns-in-Some
returns-in-Some c =
    let t = c.args.self.now.table in
    let v = c.loop-place.invariant in
    let last = c.loop-place.walk.set in
    let set = c.advance.new.self.set in
    let counted : c.count-place-end.result ≡ length (block_sets t.blocks) = c.count-place-end.ensures.value ∙ ap (λ u. length (block_sets u.table.blocks)) c.self.view_is in
    let inside : c.loop-place.place < length (block_sets t.blocks) = omega (arith, counted, c.loop-place-test.true) in
    let at : find (block_before last) (block_sets t.blocks) ≡ Some set = v.place ∙ came-within t.blocks c.loop-place.walk.blocks c.loop-place.place last set c.advance.result v.of_blocks v.place c.advance.ensures.next inside in
    ap (λ s. Some (asked_of s c.in-Some.q)) c.set.ensures.set
    ∙ sym (v.passed ∙ first-passing t.blocks.item_count t.blocks.largest (is_open_in t) last set c.open_items.result c.in-Some.q at c.open_items.ensures (sym c.least.ensures.value ∙ c.in-Some.is))

pub loop-place-preserved : goal.loop-place-preserved
loop-place-preserved c =
    let t = c.args.self.now.table in
    let n = t.blocks.item_count in
    let k = t.blocks.largest in
    let v = c.loop-place.invariant in
    let last = c.loop-place.walk.set in
    let set = c.advance.new.self.set in
    let counted : c.count-place-end.result ≡ length (block_sets t.blocks) = c.count-place-end.ensures.value ∙ ap (λ u. length (block_sets u.table.blocks)) c.self.view_is in
    let inside : c.loop-place.place < length (block_sets t.blocks) = omega (arith, counted, c.loop-place-test.true) in
    let here : slice_get (block_sets t.blocks) c.loop-place.place ≡ Some set = came-within t.blocks c.loop-place.walk.blocks c.loop-place.place last set c.advance.result v.of_blocks v.place c.advance.ensures.next inside in
    record {
      of_blocks = c.advance.ensures.blocks ∙ v.of_blocks;
      place = next_place n k c.loop-place.place set here;
      passed = v.passed ∙ none-passing n k (is_open_in t) last set c.open_items.result (v.place ∙ here) c.open_items.ensures (sym c.least.ensures.value ∙ c.in_default.is);
    }

pub returns : goal.returns
returns c =
    let t = c.args.self.now.table in
    let counted : c.count-place-end.result ≡ length (block_sets t.blocks) = c.count-place-end.ensures.value ∙ ap (λ u. length (block_sets u.table.blocks)) c.self.view_is in
    let past : length (block_sets t.blocks) ≤ c.loop-place.place = omega (arith, counted, c.loop-place-test.false) in
    sym (c.loop-place.invariant.passed ∙ passing-end t.blocks.item_count t.blocks.largest (is_open_in t) c.loop-place.walk.set (c.loop-place.invariant.place ∙ slice_get_past (block_sets t.blocks) c.loop-place.place past))
