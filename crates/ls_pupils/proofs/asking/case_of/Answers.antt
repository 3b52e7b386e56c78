use Rattle.ls_pupils.proofs.Vocabulary.{◌∙◌, List, PupilCase, Some, ap, get_or, pupil_of_case, sym}
use Rattle.ls_pupils.proofs.Named.{named-at, not_named, index-is}
use Rattle.ls_pupils.proofs.asking.case_of.Goals as goal

pub returns-in-None-clause-pupil : goal.returns-in-None-clause-pupil
returns-in-None-clause-pupil c = sym (not_named c.args.name.now c.args.pupils.now (sym c.place.ensures ∙ c.in-None.is)).none

pub returns-in-Some-clause-pupil : goal.returns-in-Some-clause-pupil
returns-in-Some-clause-pupil c =
    let name = c.args.name.now in
    let cases = c.args.pupils.now in
    let at = named-at name cases c.in-Some.place (sym c.place.ensures ∙ c.in-Some.is) in
    let is = index-is name cases c.in-Some.place c.index-as_slice-place.result at (c.index-as_slice-place.is ∙ ap (λ (l : List PupilCase). get_or l c.in-Some.place c.index-as_slice-place.result) c.as_slice.ensures) in
    ap (λ x. Some (pupil_of_case x)) is ∙ sym at.found
