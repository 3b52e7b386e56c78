use Rattle.ls_pupils.proofs.Vocabulary.{◌∙◌, IsFamily, compat-IsFamily, start_of, subst, sym}
use Rattle.ls_pupils.proofs.asking.report_of.Goals as goal

pub new-states-requires-clause-family : goal.new-states-requires-clause-family
new-states-requires-clause-family c =
    let case = c.args.case.now in
    subst (IsFamily c.args.n) (sym (c.states.ensures.value ∙ c.requires.case.states)) (compat-IsFamily c.args.n (start_of case.start) case.yes)
