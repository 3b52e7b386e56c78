use Rattle.ls_base.proofs.Vocabulary.{◌≡◌, Items, List, base, spanned, subst, sym}
use Rattle.ls_base.proofs.Gains.{base-left_again}
use Rattle.ls_base.proofs.base.Base.after_yes.Goals as goal

pub base_left-requires-clause-base : goal.base_left-requires-clause-base
base_left-requires-clause-base c =
    subst (λ (g : List Items). base (spanned c.self.inside.n g) ≡ g) (sym c.deref.ensures.value)
    c.self.invariant.is_base

pub limited-requires-clause-base : goal.limited-requires-clause-base
limited-requires-clause-base c =
    base-left_again c.self.inside.n c.deref.result.now c.in_ok-left.left.items c.args.r.now
    c.in_ok-left.ensures
