use Rattle.ls_store.proofs.Vocabulary.{◌∙◌, ap, is_some, view}
use Rattle.ls_store.proofs.PupilNames.{name-there, name-free}
use Rattle.ls_store.proofs.pupils.next_case.Goals as goal

pub returns-then-is_some-clause-none : goal.returns-then-is_some-clause-none
returns-then-is_some-clause-none g c = λ p e is.
    name-there c.args.version c.args.n (view c.args.object.now) c.in_ok-name.name c.in_ok-name.ensures c.args.earlier.now p
    (c.if-is_some.ensures ∙ ap (λ o. is_some o) c.place.ensures) is

pub returns-clause-own : goal.returns-clause-own
returns-clause-own g c =
    name-free c.args.version c.args.n (view c.args.object.now) c.in_ok-name.name c.in_ok-name.ensures c.args.earlier.now c.read_case.result
    (c.if-is_some.ensures ∙ ap (λ o. is_some o) c.place.ensures) c.read_case.ensures.value
