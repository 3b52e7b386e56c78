use Rattle.ls_pupils.proofs.Vocabulary.{◌∙◌, Agreed, ArePupils, List, PupilCase, ap, changed_to, subst, sym}
use Rattle.ls_pupils.proofs.Named.{named-at, not_named, at-within}
use Rattle.ls_pupils.proofs.Keeping.{own-at, are-closed, close-found, close-none}
use Rattle.ls_pupils.proofs.asking.close.Goals as goal

pub returns-in-None-clause-row : goal.returns-in-None-clause-row
returns-in-None-clause-row c =
    let name = c.args.name.now in
    let cases = c.args.pupils.now in
    close-none name cases (not_named name cases (sym c.place.ensures ∙ c.in-None.is)).none

pub close-requires-clause-place : goal.close-requires-clause-place
close-requires-clause-place c =
    at-within c.args.name.now c.args.pupils.now c.in-Some.place (sym c.place.ensures ∙ c.in-Some.is)

pub close-requires-clause-case : goal.close-requires-clause-case
close-requires-clause-case c = λ case at. own-at c.args.pupils.now c.in-Some.place case c.requires.cases at

pub returns-in-Some-clause-row : goal.returns-in-Some-clause-row
returns-in-Some-clause-row c =
    let name = c.args.name.now in
    let cases = c.args.pupils.now in
    let place = c.in-Some.place in
    close-found name cases place c.requires.own (named-at name cases place (sym c.place.ensures ∙ c.in-Some.is))
    ∙ ap (λ (next : List PupilCase). changed_to next Agreed) (sym c.close.ensures)

pub returns-in-Some-clause-pupils : goal.returns-in-Some-clause-pupils
returns-in-Some-clause-pupils c = λ n are.
    subst (ArePupils n) (sym c.close.ensures) (are-closed n c.args.pupils.now c.in-Some.place are)
