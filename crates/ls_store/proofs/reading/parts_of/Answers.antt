use Rattle.ls_store.proofs.Vocabulary.{◌∙◌, ◌≡◌, IsSessionFault, Ok, names_field, session_from, settings_in, subst, sym, version_field, view}
use Rattle.ls_files.specs.declared.cause.Cause.TheVariants as cause
use Rattle.ls_store.proofs.Going.{after_settings, after_version, begun, fault-on, named, passed_on, some, told-err, told-ok}
use Rattle.ls_store.proofs.reading.parts_of.Goals as goal

pub returns-in_err-version-clause-fault : goal.returns-in_err-version-clause-fault
returns-in_err-version-clause-fault g c =
    let d = view c.args.object.now in
    let f = c.in_err-version.field-0.0 in
    passed_on (session_from d) f c.from_residual.result c.from_residual.ensures.1
    (subst (λ r. IsSessionFault r f) (sym (begun d)) (told-err (λ v. v) cause.Version (version_field.find_in d) c.read_version.result (after_version d) f c.read_version.ensures c.in_err-version.ensures))

pub returns-in_err-domain-clause-fault : goal.returns-in_err-domain-clause-fault
returns-in_err-domain-clause-fault g c =
    let d = view c.args.object.now in
    let v = c.in_ok-version.version in
    let f = c.in_err-domain.field-0.0 in
    let e = told-ok (λ v. v) cause.Version (version_field.find_in d) c.read_version.result v c.read_version.ensures c.in_ok-version.ensures in
    passed_on (session_from d) f c.from_residual-in_err-domain.result c.from_residual-in_err-domain.ensures.1
    (subst (λ r. IsSessionFault r f) (sym (begun d ∙ some cause.Version _ v (after_version d) e))
    (told-err (λ x. x) cause.Items (names_field.find_in d) c.read_domain.result _ f c.read_domain.ensures c.in_err-domain.ensures))

pub returns-in-Err-clause-fault : goal.returns-in-Err-clause-fault
returns-in-Err-clause-fault g c =
    let d = view c.args.object.now in
    let v = c.in_ok-version.version in
    let names = c.in_ok-domain.domain in
    let n = c.count.result in
    let f = c.in-Err.fault in
    let e = told-ok (λ v. v) cause.Version (version_field.find_in d) c.read_version.result v c.read_version.ensures c.in_ok-version.ensures in
    let h = told-ok (λ x. x) cause.Items (names_field.find_in d) c.read_domain.result names c.read_domain.ensures c.in_ok-domain.ensures in
    subst (λ r. IsSessionFault r f) (sym (named d v names n c.count.ensures.value e h)) (fault-on (settings_in v n d) (after_settings v n d names) f c.in-Err.ensures.fault)

pub parts_after-requires-clause-version : goal.parts_after-requires-clause-version
parts_after-requires-clause-version g c =
    told-ok (λ v. v) cause.Version (version_field.find_in (view c.args.object.now)) c.read_version.result c.in_ok-version.version c.read_version.ensures c.in_ok-version.ensures

pub parts_after-requires-clause-names : goal.parts_after-requires-clause-names
parts_after-requires-clause-names g c =
    told-ok (λ x. x) cause.Items (names_field.find_in (view c.args.object.now)) c.read_domain.result c.in_ok-domain.domain c.read_domain.ensures c.in_ok-domain.ensures

pub parts_after-requires-clause-settings : goal.parts_after-requires-clause-settings
parts_after-requires-clause-settings g c =
    subst (λ m. settings_in c.in_ok-version.version m (view c.args.object.now) ≡ Ok c.in-Ok.settings) c.count.ensures.value c.in-Ok.ensures.settings
