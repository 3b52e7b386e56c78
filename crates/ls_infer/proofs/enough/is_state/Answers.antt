use Rattle.ls_infer.proofs.Vocabulary.{◌∙◌, ap, family_sets, is_within, is_within-interior}
use Rattle.ls_infer.proofs.enough.is_state.Goals as goal

pub returns-clause-value : goal.returns-clause-value
returns-clause-value g c =
    let family = family_sets _ _ (g.met.I.Interior.is_family c.args.f.now) in
    c.is_within.ensures ∙ ap (is_within c.args.s) c.interior.ensures.value ∙ is_within-interior (g.I.Interior.members c.args.f.now) family.holds_empty family.holds_unions c.args.s
