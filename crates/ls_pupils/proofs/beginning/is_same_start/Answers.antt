use Rattle.ls_pupils.proofs.Vocabulary.{◌∙◌, ap, start_of, sym}
use Rattle.ls_theory.specs.Starts as theory
use Rattle.ls_pupils.proofs.beginning.is_same_start.Goals as goal

pub returns-in-Sets-Sets : goal.returns-in-Sets-Sets
returns-in-Sets-Sets c = λ h.
    ap start_of c.in-Sets-Sets.is-0
    ∙ ap theory.Sets (sym c.sets.ensures.value ∙ c.are_same_sets.ensures h ∙ c.sets-in-Sets-Sets.ensures.value)
    ∙ sym (ap start_of c.in-Sets-Sets.is-1)
