use Rattle.ls_infer.proofs.Vocabulary.{◌∙◌, ◌≡◌, AreStates, ap, arith, blocks, closure, common_steps, full, length, map, refl, block_sets, sym, take_at}
use Rattle.ls_infer.proofs.Changes.{closures-within, standing-kept}
use Rattle.ls_infer.proofs.table.Table.build.Given as given
use Rattle.ls_infer.proofs.table.Table.build.Goals as goal
use Rattle.ls_infer.proofs.table.Table.build.Goals.{In_ok-standing}

-- the closures of the block sets
closed : (g : given.Over) (c : In_ok-standing g) → c.deref.result.now ≡ map (closure (full (g.I.Interior.item_count c.args.f.now)) (g.I.Interior.members c.args.f.now)) (blocks (g.I.Interior.item_count c.args.f.now) c.args.blocks.largest)
closed g c =
    let n = g.I.Interior.item_count c.args.f.now in
    let f = g.I.Interior.members c.args.f.now in
    c.deref.ensures.value ∙ c.in_ok-closures.ensures.list ∙ ap (λ m. map (closure (full n) f) (blocks m c.args.blocks.largest)) (sym c.requires.items)

-- no states yet
begun : (g : given.Over) (c : In_ok-standing g) → AreStates (g.I.Interior.members c.args.f.now) c.deref_mut.result.now
begun g c = rw c.deref_mut.ensures.value (c.in_ok-witnesses.ensures (g.I.Interior.members c.args.f.now))

pub invariant_of-result : goal.invariant_of-result
invariant_of-result g c =
    let at = (goal.at.invariant_of-result g c).In_ok-standing in
    let n = g.I.Interior.item_count c.args.f.now in
    let f = g.I.Interior.members c.args.f.now in
    let kept = (c.in_ok-standing.ensures.list (begun g at)).1 c.args.blocks.largest (closed g at) in
    record {
      items = c.items-n.ensures.count ∙ c.requires.items;
      few = c.items-n.ensures.few;
      each = grind (arith, common_steps);
      few_sets = grind (arith, common_steps);
      within = rw (c.items-n.ensures.count, c.in_ok-closures.ensures.list) (closures-within n f (block_sets c.args.blocks));
      kept = rw (c.items-n.ensures.count, kept) (standing-kept n f c.args.answers.now c.requires.good);
    }

pub returns-clause-built : goal.returns-clause-built
returns-clause-built g c =
    let kept = c.in_ok-standing.ensures.list (begun g c) in
    let long : length c.standing_of.new.witnesses ≡ c.in_ok-witnesses.witnesses.len = omega (arith, c.standing_of.auto.witnesses, c.deref_mut.ensures.len) in
    record {
      table = rw (c.in_ok-closures.ensures.list, kept.1 c.args.blocks.largest (closed g c), c.requires.items) refl;
      states = rw (take_at c.standing_of.new.witnesses _ c.in_ok-witnesses.witnesses.len long) kept.0;
    }
