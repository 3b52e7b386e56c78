use Rattle.ls_infer.proofs.Vocabulary.{◌+◌, ◌<◌, ◌∙◌, ◌≡◌, ◌≤◌, IsKeptClosure, Items, List, Some, ap, arith, closure, cond, count-next, count_by, drop_more_same, empty, false, full, get_or, good-from, images-at, images-end, images-next, is_some, is_some-position, is_stale, is_within, is_within-from, left-at, left-next, length, list_all-set, list_any, position-lt, refl, block_sets, slice_get, subst, sym, take}
use Rattle.std.proofs.lemmas.List.Quantifiers.{position-Some}
use Rattle.ls_infer.proofs.Places.{next_place, came-within}
use Rattle.ls_infer.proofs.Closing.{first-images, fresh-first, images-stay, fresh_stays, stale_has, all_fresh}
use Rattle.ls_infer.proofs.closures.close_again.Goals as goal
use Rattle.ls_infer.proofs.closures.close_again.Goals.{then-is_stale, else-is_stale}

pub walk_before-walk-requires : goal.walk_before-walk-requires
walk_before-walk-requires g c = omega (arith, c.requires.each, position-lt (is_stale c.args.change c.args.r.now) c.args.closures.now c.in-Some.start (sym c.first_stale.ensures ∙ c.in-Some.is))

pub loop-place-init : goal.loop-place-init
loop-place-init g c =
    let n = g.I.Interior.item_count c.args.f.now in
    let f = g.I.Interior.members c.args.f.now in
    let r = c.args.r.now in
    let start = c.in-Some.start in
    let first = position-Some (is_stale c.args.change r) c.args.closures.now start empty (sym c.first_stale.ensures ∙ c.in-Some.is) in
    let below : start ≤ length (block_sets c.args.blocks) = omega (arith, c.requires.each, first.0) in
    record {
      of_blocks = c.walk_before-walk.ensures.blocks;
      place = c.walk_before-walk.ensures.next;
      within = c.requires.within;
      left = refl;
      made = λ before change e. fresh-first c.args.change n r before f (block_sets c.args.blocks) c.args.closures.now start (g.met.I.Interior.is_family c.args.f.now) (good-from n r c.requires.good) change below first.2 e;
      kept = λ before change e. c.new-kept.ensures.kept c.args.blocks.item_count f;
      cost = omega arith;
    }

pub loop-place-preserved : goal.loop-place-preserved
loop-place-preserved g c =
    let n = g.I.Interior.item_count c.args.f.now in
    let f = g.I.Interior.members c.args.f.now in
    let r = c.args.r.now in
    let b = c.args.blocks in
    let xs : List Items = c.args.closures.now in
    let ys : List Items = c.loop-place.closures in
    let i = c.loop-place.place in
    let x : Items = c.index-closures-place.result in
    let s = c.advance.new.self.set in
    let v = c.loop-place.invariant in
    let inside : i < length (block_sets b) = omega (arith, c.requires.each, c.loop-place-test.true) in
    let at : slice_get (block_sets b) i ≡ Some s = came-within b c.loop-place.walk.blocks i c.loop-place.walk.set s c.advance.result v.of_blocks v.place c.advance.ensures.next inside in
    let old = left-at xs ys i x v.left c.index-closures-place.is in
    let counted = count-next (is_within r.a) xs i x c.loop-place-test.true old in
    let told = ap (is_stale c.args.change r) c.index-closures-place.is in
    let below : i ≤ length (block_sets b) = omega (arith, c.requires.each, c.loop-place-test.true) in
    elim c.if-is_stale.branch [
      | then-is_stale w ↦ record {
        of_blocks = c.advance.ensures.blocks ∙ v.of_blocks;
        place = next_place b.item_count b.largest i s at;
        within = rw w.closures-is (list_all-set (λ c. is_within c (full n)) ys i w.close_block.result v.within (is_within-from w.close_block.result (full n) w.close_block.ensures.within));
        left = rw w.closures-is (left-next xs ys i w.close_block.result v.left);
        made = λ before change e. w.closures-is ∙ images-next (closure (full n) f) (closure (full n) before) (block_sets b) ys i s w.close_block.result at (v.made before change e)
            (w.close_block.ensures.value (first-images n b.item_count f before b ys i c.requires.items below (v.made before change e)) (v.kept before change e));
        kept = λ before change e. subst (IsKeptClosure b.item_count f) (sym w.kept-is)
            (w.close_block.ensures.kept (first-images n b.item_count f before b ys i c.requires.items below (v.made before change e)) (v.kept before change e));
        cost =
            let one = ap (λ z. count_by (is_within r.a) (take i xs) + cond z 1 0) (stale_has c.args.change r x (told ∙ sym w.if-is_stale.ensures)) in
            omega (arith, counted, one, v.cost, w.close_block.ensures.cost, w.steps-is);
      }
      | else-is_stale w ↦ record {
        of_blocks = c.advance.ensures.blocks ∙ v.of_blocks;
        place = next_place b.item_count b.largest i s at;
        within = rw w.closures-is v.within;
        left = rw w.closures-is (drop_more_same ys xs i v.left);
        made = λ before change e.
            let closed = c.index-closures-place.is ∙ ap (λ l. get_or l i x) (v.made before change e) ∙ images-at (closure (full n) f) (closure (full n) before) (block_sets b) i s x at in
            w.closures-is ∙ images-stay (closure (full n) f) (closure (full n) before) (block_sets b) ys i s at (v.made before change e)
            (fresh_stays c.args.change n r before f s (g.met.I.Interior.is_family c.args.f.now) (good-from n r c.requires.good) change (ap (is_stale c.args.change r) (sym closed) ∙ told ∙ sym w.if-is_stale.ensures));
        kept = λ before change e. subst (IsKeptClosure b.item_count f) (sym w.kept-is) (v.kept before change e);
        cost = omega (arith, counted, v.cost, w.steps-is);
      }
    ]

pub returns-clause-each : goal.returns-clause-each
returns-clause-each g c = λ before change e.
    let n = g.I.Interior.item_count c.args.f.now in
    let f = g.I.Interior.members c.args.f.now in
    let past : length (block_sets c.args.blocks) ≤ c.loop-place.place = omega (arith, c.requires.each, c.loop-place-test.false) in
    c.loop-place.invariant.made before change e ∙ images-end (closure (full n) f) (closure (full n) before) (block_sets c.args.blocks) c.loop-place.place past

pub returns-in_default-clause-each : goal.returns-in_default-clause-each
returns-in_default-clause-each g c = λ before change e.
    let n = g.I.Interior.item_count c.args.f.now in
    let f = g.I.Interior.members c.args.f.now in
    let stale = is_stale c.args.change c.args.r.now in
    let none : list_any stale c.args.closures.now ≡ false = sym (is_some-position stale c.args.closures.now) ∙ ap is_some (sym c.first_stale.ensures ∙ c.in_default.is) in
    e ∙ all_fresh c.args.change n c.args.r.now before f (block_sets c.args.blocks) (g.met.I.Interior.is_family c.args.f.now) (good-from n c.args.r.now c.requires.good) change
    (ap (list_any stale) (sym e) ∙ none)
