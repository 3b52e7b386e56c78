use Rattle.ls_infer.proofs.Vocabulary.{◌∙◌, ◌≡◌, BlockRange, TableState, ap, arith, blocks, closure, drop, full, length, map, refl, block_sets, sym, take_at, ℕ}
use Rattle.ls_infer.proofs.table.Table.change.Goals as goal

pub returns-clause-kept : goal.returns-clause-kept
returns-clause-kept g c = λ b before nos change e states.
    let n = g.I.Interior.item_count c.args.f.now in
    let after = g.I.Interior.members c.args.f.now in
    let own = rw (← c.self.view_is) at e in
    let range : c.self.inside.blocks ≡ b = ap (λ (t : TableState). t.blocks) own in
    let items : n ≡ b.item_count = c.requires.items ∙ ap (λ (t : TableState). t.blocks.item_count) e in
    let first : length c.close_again.new.closures ≡ c.self.inside.closures.len = omega (arith, c.close_again.auto.closures, c.deref_mut-2.ensures.len) in
    let second : length c.change_each.new.kept ≡ c.self.inside.standing.len = omega (arith, c.change_each.auto.kept, c.deref_mut-3.ensures.len) in
    let third : length c.renew_each.new.kept ≡ c.self.inside.witnesses.len = omega (arith, c.renew_each.auto.kept, c.deref_mut.ensures.len) in
    let last : length c.change_each.new.witnesses ≡ c.self.inside.witnesses.len = omega (arith, c.change_each.auto.witnesses, c.deref_mut-4.ensures.len) in
    let closed = take_at c.close_again.new.closures (drop (length c.close_again.new.closures) c.self.inside.closures.items) c.self.inside.closures.len first ∙ c.close_again.ensures.each before (rw items change) (rw (c.deref_mut-2.ensures.value, items, range) (ap (λ (t : TableState). t.closures) own)) in
    let kept = c.change_each.ensures.each before b.largest nos (rw items change)
    (c.deref.ensures.value ∙ closed ∙ ap (λ (u : BlockRange). map (closure (full n) after) (block_sets u)) range ∙ ap (λ (m : ℕ). map (closure (full n) after) (blocks m b.largest)) (sym items))
    (rw (c.deref_mut-4.ensures.value, take_at c.renew_each.new.kept _ c.self.inside.witnesses.len third, c.renew_each.ensures, c.deref_mut.ensures.value) (rw (← c.self.view_is) at states))
    (rw (c.deref_mut-3.ensures.value, items) (ap (λ (t : TableState). t.standing) own)) in
    record {
      table = rw (closed, take_at c.change_each.new.kept _ c.self.inside.standing.len second, kept.0, range, items) refl;
      states = rw (take_at c.change_each.new.witnesses _ c.self.inside.witnesses.len last) kept.1;
    }
