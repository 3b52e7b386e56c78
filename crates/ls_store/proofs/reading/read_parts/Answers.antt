use Rattle.ls_store.proofs.Vocabulary.{◌∙◌, IfErr, IfOk-weaker, IsSessionFault, subst, sym, view}
use Rattle.ls_store.proofs.Going.{no_object, an_object}
use Rattle.ls_store.proofs.reading.read_parts.Goals as goal

pub returns-in-Some-clause-session : goal.returns-in-Some-clause-session
returns-in-Some-clause-session g c =
    let is = an_object c.args.bytes.now (view c.in-Some.object) (rw c.in-Some.is at c.in_ok-object.ensures) in
    IfOk-weaker c.parts_of-parts.result _ _ (λ p h. is ∙ h) c.parts_of-parts.ensures.session

pub returns-in-Some-clause-fault : goal.returns-in-Some-clause-fault
returns-in-Some-clause-fault g c =
    let is = an_object c.args.bytes.now (view c.in-Some.object) (rw c.in-Some.is at c.in_ok-object.ensures) in
    subst (λ r. IfErr c.parts_of-parts.result (IsSessionFault r)) (sym is) c.parts_of-parts.ensures.fault

pub returns-in-None-clause-fault : goal.returns-in-None-clause-fault
returns-in-None-clause-fault g c = no_object c.args.bytes.now (rw c.in-None.is at c.in_ok-object.ensures)
