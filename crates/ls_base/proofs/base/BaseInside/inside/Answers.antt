use Rattle.ls_base.proofs.Vocabulary.{◌∙◌, ap, interior}
use Rattle.ls_base.proofs.Spanned.{base-on, interior-spanned}
use Rattle.ls_base.proofs.base.BaseInside.inside.Goals as goal

pub returns : goal.returns
returns c =
    let b = c.self.inside in
    rw (← c.self.view_is) (c.union_within.ensures ∙ ap (λ g. interior g c.args.s) c.deref.ensures.value ∙ interior-spanned b.n b.sets.items c.args.s (base-on b.n b.sets.items c.self.invariant.is_base))
