use Rattle.ls_infer.proofs.Vocabulary.{◌+◌, ◌∙◌, ◌≡◌, ◌≤◌, ArePassing, IsIn, None, Some, ap, arith, asked_of, block_before, first-passing, get-in, is_open_by, length, looked_at, none-passing, passing-end, refl, block_sets, slice_get, slice_get_past, sorted-blocks, subst, sym}
use Rattle.ls_infer.proofs.Places.{next_place, came-to, came-past}
use Rattle.ls_infer.proofs.Looking.{first-one, never-before, one-more, owed-all, owed-first, owed-more, up_to, up_to-all}
use Rattle.ls_infer.proofs.Searching.{some_place}
use Rattle.ls_lists.proofs.Sorted.{find-is}
use Rattle.ls_query.proofs.BlockOrder.{before-asymmetric}
use Rattle.ls_infer.proofs.search.find_after.Goals as goal

pub loop-passed-init : goal.loop-passed-init
loop-passed-init g c =
    let first = some_place (block_before c.args.walk.set) (block_sets c.args.blocks) in
    record {
      of_blocks = c.requires.walk;
      search = c.requires.search;
      place = (first.0, first.1 ∙ ap (slice_get (block_sets c.args.blocks)) (omega arith));
      passed = refl;
      after = never-before c.args.walk.set;
      cost = owed-first (c.args.blocks.largest + 1) c.args.steps.now (up_to c.args.blocks c.args.walk.set c.args.walk.set) (first-one c.args.blocks c.args.walk.set c.requires.set);
    }

pub returns-then-not-advance-clause-found : goal.returns-then-not-advance-clause-found
returns-then-not-advance-clause-found g c =
    let b = c.args.blocks in
    let v = c.loop-passed.invariant in
    let last = c.loop-passed.walk.set in
    let opens = is_open_by (g.I.Interior.item_count c.args.f.now) (g.I.Interior.members c.args.f.now) c.args.standing.now in
    sym (v.passed ∙ passing-end b.item_count b.largest opens last
    (v.place.1 ∙ came-past b c.loop-passed.walk.blocks (v.place.0 + c.loop-passed._passed) last c.advance.new.self.set c.advance.result v.of_blocks v.place.1 c.advance.ensures.next c.if-not-advance.true))

pub open_items-requires-clause-items : goal.open_items-requires-clause-items
open_items-requires-clause-items g c = c.requires.items ∙ ap (λ b. b.item_count) (sym (c.advance.ensures.blocks ∙ c.loop-passed.invariant.of_blocks))

pub open_items-requires-clause-set : goal.open_items-requires-clause-set
open_items-requires-clause-set g c =
    let b = c.args.blocks in
    let v = c.loop-passed.invariant in
    let set = c.advance.new.self.set in
    let i = v.place.0 + c.loop-passed._passed in
    let at : slice_get (block_sets b) i ≡ Some set = came-to b c.loop-passed.walk.blocks i c.loop-passed.walk.set set c.advance.result v.of_blocks v.place.1 c.advance.ensures.next c.if-not-advance.false in
    subst (λ e. IsIn set (block_sets e)) (sym (c.advance.ensures.blocks ∙ v.of_blocks)) (get-in (block_sets b) i set at)

pub returns-in-Some-clause-found : goal.returns-in-Some-clause-found
returns-in-Some-clause-found g c =
    let b = c.args.blocks in
    let n = g.I.Interior.item_count c.args.f.now in
    let opens = is_open_by n (g.I.Interior.members c.args.f.now) c.args.standing.now in
    let v = c.loop-passed.invariant in
    let last = c.loop-passed.walk.set in
    let set = c.advance.new.self.set in
    let i = v.place.0 + c.loop-passed._passed in
    let at : slice_get (block_sets b) i ≡ Some set = came-to b c.loop-passed.walk.blocks i last set c.advance.result v.of_blocks v.place.1 c.advance.ensures.next c.if-not-advance.false in
    let those = subst (λ m. ArePassing m opens set c.open_items.result) c.requires.items c.open_items.ensures.open in
    ap (λ s. Some (asked_of s c.in-Some.q)) c.set.ensures.set
    ∙ sym (v.passed ∙ first-passing b.item_count b.largest opens last set c.open_items.result c.in-Some.q (v.place.1 ∙ at) those (sym c.least.ensures.value ∙ c.in-Some.is))

pub loop-passed-preserved : goal.loop-passed-preserved
loop-passed-preserved g c =
    let b = c.args.blocks in
    let n = g.I.Interior.item_count c.args.f.now in
    let opens = is_open_by n (g.I.Interior.members c.args.f.now) c.args.standing.now in
    let v = c.loop-passed.invariant in
    let last = c.loop-passed.walk.set in
    let set = c.advance.new.self.set in
    let i = v.place.0 + c.loop-passed._passed in
    let at : slice_get (block_sets b) i ≡ Some set = came-to b c.loop-passed.walk.blocks i last set c.advance.result v.of_blocks v.place.1 c.advance.ensures.next c.if-not-advance.false in
    let those = subst (λ m. ArePassing m opens set c.open_items.result) c.requires.items c.open_items.ensures.open in
    let first = c.args.walk.set in
    let same : c.advance.new.self.blocks.largest ≡ b.largest = ap (λ x. x.largest) (c.advance.ensures.blocks ∙ v.of_blocks) in
    let on = find-is block_before (block_before last) (block_sets b) set (sorted-blocks b.item_count b.largest) before-asymmetric (v.place.1 ∙ at) in
    let more = one-more b first last set v.after on.1 on.0 in
    record {
      of_blocks = c.advance.ensures.blocks ∙ v.of_blocks;
      search = c.open_items.ensures.search;
      place = (v.place.0, next_place b.item_count b.largest i set at ∙ ap (slice_get (block_sets b)) (omega arith));
      passed = v.passed ∙ none-passing b.item_count b.largest opens last set c.open_items.result (v.place.1 ∙ at) those (sym c.least.ensures.value ∙ c.in_default.is);
      after = more.0;
      cost = owed-more (b.largest + 1) c.args.steps.now c.loop-passed.steps c.open_items.new.steps (up_to b first last) (up_to b first set) v.cost (omega (arith, same, c.open_items.ensures.cost)) more.1;
    }

pub returns-clause-found : goal.returns-clause-found
returns-clause-found g c =
    let b = c.args.blocks in
    let v = c.loop-passed.invariant in
    let opens = is_open_by (g.I.Interior.item_count c.args.f.now) (g.I.Interior.members c.args.f.now) c.args.standing.now in
    let past : length (block_sets b) ≤ v.place.0 + c.loop-passed._passed = omega (arith, c.count-passed-end.ensures.value, c.loop-passed-test.false) in
    sym (v.passed ∙ passing-end b.item_count b.largest opens c.loop-passed.walk.set (v.place.1 ∙ slice_get_past (block_sets b) (v.place.0 + c.loop-passed._passed) past))

pub returns-then-not-advance-clause-cost : goal.returns-then-not-advance-clause-cost
returns-then-not-advance-clause-cost g c =
    let b = c.args.blocks in
    let first = c.args.walk.set in
    owed-all (b.largest + 1) c.args.steps.now c.loop-passed.steps (up_to b first c.loop-passed.walk.set) (looked_at b (Some first) None) c.loop-passed.invariant.cost (up_to-all b first c.loop-passed.walk.set)

pub returns-clause-cost : goal.returns-clause-cost
returns-clause-cost g c =
    let b = c.args.blocks in
    let first = c.args.walk.set in
    owed-all (b.largest + 1) c.args.steps.now c.loop-passed.steps (up_to b first c.loop-passed.walk.set) (looked_at b (Some first) None) c.loop-passed.invariant.cost (up_to-all b first c.loop-passed.walk.set)

pub returns-in-Some-clause-cost : goal.returns-in-Some-clause-cost
returns-in-Some-clause-cost g c =
    let b = c.args.blocks in
    let v = c.loop-passed.invariant in
    let first = c.args.walk.set in
    let last = c.loop-passed.walk.set in
    let set = c.advance.new.self.set in
    let at : slice_get (block_sets b) (v.place.0 + c.loop-passed._passed) ≡ Some set = came-to b c.loop-passed.walk.blocks (v.place.0 + c.loop-passed._passed) last set c.advance.result v.of_blocks v.place.1 c.advance.ensures.next c.if-not-advance.false in
    let same : c.advance.new.self.blocks.largest ≡ b.largest = ap (λ x. x.largest) (c.advance.ensures.blocks ∙ v.of_blocks) in
    let on = find-is block_before (block_before last) (block_sets b) set (sorted-blocks b.item_count b.largest) before-asymmetric (v.place.1 ∙ at) in
    rw c.set.ensures.set
    (owed-more (b.largest + 1) c.args.steps.now c.loop-passed.steps c.open_items.new.steps (up_to b first last) (up_to b first set) v.cost (omega (arith, same, c.open_items.ensures.cost)) (one-more b first last set v.after on.1 on.0).1)
