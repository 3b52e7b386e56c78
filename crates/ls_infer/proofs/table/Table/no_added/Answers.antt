use Rattle.ls_infer.proofs.Vocabulary.{◌∙◌, sym}
use Rattle.ls_infer.proofs.Changes.{kept-added}
use Rattle.ls_infer.proofs.table.Table.no_added.Goals as goal

pub invariant_of-self : goal.invariant_of-self
invariant_of-self g c =
    let t = c.self.invariant in
    let n = c.self.inside.n in
    record {
      items = t.items;
      few = t.few;
      each = t.each;
      few_sets = t.few_sets;
      within = t.within;
      kept = rw (c.push_reserved.ensures.items, c.new.ensures.value) (kept-added n _ (g.I.Interior.members c.args.f.now) c.self.inside.standing.items c.args.x (t.items ∙ sym (rw (← c.self.view_is) at c.requires.items)) t.kept (rw t.items (rw (← c.self.view_is) at c.requires.good)));
    }
