use Rattle.ls_store.proofs.Vocabulary.{ArePupils, IsSessionFault, interview_in, pupils_field, pupils_of, subst, sym, view}
use Rattle.ls_files.specs.declared.cause.Cause.TheVariants as cause
use Rattle.ls_store.specs.Stored.{held_in}
use Rattle.ls_store.proofs.Going.{after_held, fault-on, gone, passed_on, told-err, told-of, told-ok}
use Rattle.ls_store.proofs.reading.held_on.Goals as goal

pub returns-in_err-inquiry-clause-fault : goal.returns-in_err-inquiry-clause-fault
returns-in_err-inquiry-clause-fault g c =
    let d = view c.args.object.now in
    let v = c.args.version in
    let n = c.args.n in
    let f = c.in_err-inquiry.field-0.0 in
    passed_on (held_in v n d) f c.from_residual.result c.from_residual.ensures.1 (fault-on (interview_in n d) (after_held v n d) f c.in_err-inquiry.ensures.fault)

pub returns-in-Err-clause-fault : goal.returns-in-Err-clause-fault
returns-in-Err-clause-fault g c =
    let d = view c.args.object.now in
    let v = c.args.version in
    let n = c.args.n in
    let f = c.in-Err.fault in
    let is = gone (interview_in n d) c.in_ok-inquiry.inquiry (after_held v n d) c.in_ok-inquiry.ensures.interview in
    subst (λ r. IsSessionFault r f) (sym is) (told-err pupils_of cause.Pupils ((pupils_field v n).find_in d) c.read_pupils.result _ f c.read_pupils.ensures.value c.in-Err.ensures)

pub returns-in-Ok-clause-read : goal.returns-in-Ok-clause-read
returns-in-Ok-clause-read g c =
    told-ok pupils_of cause.Pupils ((pupils_field c.args.version c.args.n).find_in (view c.args.object.now)) c.read_pupils.result c.in-Ok.pupils c.read_pupils.ensures.value c.in-Ok.ensures

pub returns-in-Ok-clause-pupils : goal.returns-in-Ok-clause-pupils
returns-in-Ok-clause-pupils g c =
    told-of (ArePupils c.args.n) cause.Pupils c.read_pupils.result c.in-Ok.pupils c.read_pupils.ensures.cases c.in-Ok.ensures
