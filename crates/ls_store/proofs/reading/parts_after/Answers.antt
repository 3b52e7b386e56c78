use Rattle.ls_store.proofs.Vocabulary.{◌∙◌, ◌≡◌, ArePupils, IsSessionFault, Ok, interview_in, pupils_of, settings_in, subst, sym, view}
use Rattle.ls_files.specs.declared.cause.Cause.TheVariants as cause
use Rattle.ls_store.proofs.Going.{after_interview, after_settings, gone, held-fault, named, some}
use Rattle.ls_store.proofs.reading.parts_after.Goals as goal

pub returns-in-Ok-clause-session : goal.returns-in-Ok-clause-session
returns-in-Ok-clause-session g c =
    let d = view c.args.object.now in
    let v = c.args.version in
    let names = c.args.domain in
    let n = c.count.result in
    let s = c.args.settings in
    let i = c.in-Ok.inquiry in
    let ps = c.in-Ok.pupils in
    let own = subst (λ m. settings_in v m d ≡ Ok s) (sym c.count.ensures.value) c.requires.settings in
    named d v names n c.count.ensures.value c.requires.version c.requires.names ∙ gone (settings_in v n d) s (after_settings v n d names) own
    ∙ gone (interview_in n d) i (after_interview v n d names s) c.in-Ok.ensures.interview ∙ some cause.Pupils _ (pupils_of ps) _ c.in-Ok.ensures.read

pub returns-in-Ok-clause-pupils : goal.returns-in-Ok-clause-pupils
returns-in-Ok-clause-pupils g c = subst (λ m. ArePupils m c.in-Ok.pupils) (sym c.in-Ok.ensures.items) c.in-Ok.ensures.pupils

pub returns-in-Err-clause-fault : goal.returns-in-Err-clause-fault
returns-in-Err-clause-fault g c =
    let d = view c.args.object.now in
    let v = c.args.version in
    let names = c.args.domain in
    let n = c.count.result in
    let s = c.args.settings in
    let f = c.in-Err.fault in
    let own = subst (λ m. settings_in v m d ≡ Ok s) (sym c.count.ensures.value) c.requires.settings in
    let is = named d v names n c.count.ensures.value c.requires.version c.requires.names ∙ gone (settings_in v n d) s (after_settings v n d names) own in
    subst (λ r. IsSessionFault r f) (sym is) (held-fault v n d names s f c.in-Err.ensures.fault)
