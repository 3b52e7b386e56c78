use Rattle.ls_infer.proofs.Vocabulary.{◌∙◌, TableState, ap, eqb, filter, not, table_of}
use Rattle.ls_infer.proofs.Changes.{kept-removed, standing-removed}
use Rattle.ls_infer.proofs.table.Table.no_removed.Goals as goal

pub invariant_of-self : goal.invariant_of-self
invariant_of-self c =
    let t = c.self.invariant in
    record {
      items = t.items;
      few = t.few;
      each = t.each;
      few_sets = t.few_sets;
      within = t.within;
      kept = rw c.take_out.ensures (kept-removed c.self.inside.n c.args.number c.self.inside.standing.items t.kept);
    }

pub returns-clause-kept : goal.returns-clause-kept
returns-clause-kept c = rw (← c.self.view_is) (λ b f nos e.
    rw c.take_out.ensures (ap (λ (t : TableState). record t { standing = filter (λ s. not (eqb s.no.number c.args.number)) t.standing }) e
    ∙ ap (λ ss. record (table_of b f nos) { standing = ss }) (standing-removed b.item_count f nos c.args.number)))
