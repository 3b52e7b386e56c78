use Rattle.ls_base.proofs.Vocabulary.{◌<◌, ◌∙◌, BaseState, ap, empty, get_or_read, is_atom_at, length, spanned, subst, sym}
use Rattle.ls_base.proofs.Spanned.{is_atom_at-base}
use Rattle.ls_base.proofs.base.Base.is_atom_at.Goals as goal

pub returns : goal.returns
returns c =
    let b = c.self.inside in
    let below = subst (λ (v : BaseState). c.args.place < length v.sets) (sym c.self.view_is) c.requires.place in
    let read = get_or_read b.sets.items c.args.place c.index.result.now below c.index.ensures empty in
    rw (← c.self.view_is)
    (c.is_atom_at.ensures ∙ ap (λ g. is_atom_at g c.args.q c.index.result.now) (c.deref.ensures.value ∙ sym c.self.invariant.is_base)
    ∙ is_atom_at-base (spanned b.n b.sets.items) c.args.q c.index.result.now ∙ ap (is_atom_at (spanned b.n b.sets.items) c.args.q) read)
