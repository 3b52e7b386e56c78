use Rattle.ls_space.proofs.Vocabulary.{◌∙◌, ap, is_within, not, sym}
use Rattle.ls_space.proofs.Together.{none-apart}
use Rattle.ls_space.proofs.unions.lacks.Goals as goal

pub returns-else-not-is_within : goal.returns-else-not-is_within
returns-else-not-is_within c =
    let inside = sym (ap (is_within c.args.whole) c.union.ensures) ∙ sym c.is_within.ensures ∙ c.if-not-is_within.false in
    ap not c.if-not-is_within.false ∙ sym (none-apart c.args.f.now.sets c.args.base.now c.args.set c.args.grown c.args.whole c.requires inside)
