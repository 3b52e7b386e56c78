use Rattle.ls_base.proofs.Vocabulary.{◌∙◌, ◌≡◌, Items, List, base, left_by, not-true, spanned, subst, sym}
use Rattle.ls_base.proofs.Gains.{base-unbroken}
use Rattle.ls_base.proofs.base.Base.is_unchanged.Goals as goal

pub returns-clause-same : goal.returns-clause-same
returns-clause-same c h =
    let n = c.self.inside.n in
    let sets = c.deref.result.now in
    let is = subst (λ (g : List Items). base (spanned n g) ≡ g) (sym c.deref.ensures.value) c.self.invariant.is_base in
    let same = base-unbroken n sets c.args.r.now (sym c.some_break.ensures ∙ not-true c.some_break.result h) is in
    rw (← c.self.view_is) (subst (λ (g : List Items). base (left_by c.args.r.now (spanned n g)) ≡ g) c.deref.ensures.value same)
