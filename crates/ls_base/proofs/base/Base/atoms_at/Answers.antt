use Rattle.ls_base.proofs.Vocabulary.{◌∙◌, ap, atoms_at, filter, is_atom_at, spanned, spanned-in_order, sym, take_all}
use Rattle.ls_base.proofs.Spanned.{atoms_at-base}
use Rattle.ls_base.proofs.base.Base.atoms_at.Goals as goal

pub returns : goal.returns
returns c =
    let b = c.self.inside in
    let sets = c.deref-set-items.result.now in
    rw (← c.self.view_is)
    (c.loop-set.invariant ∙ ap (filter (is_atom_at sets c.args.q)) (take_all c.loop-set.set-index sets c.loop-set-test.false)
    ∙ ap (λ g. atoms_at g c.args.q) (c.deref-set-items.ensures.value ∙ sym c.self.invariant.is_base)
    ∙ atoms_at-base (spanned b.n b.sets.items) c.args.q (spanned-in_order b.n b.sets.items))
