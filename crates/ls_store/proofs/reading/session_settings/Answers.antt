use Rattle.ls_store.proofs.Vocabulary.{◌∙◌, ◌≡◌, ◌≤◌, IsSessionFault, Ok, Some, ap, length, limits_field, most_items, odds_field, settings_in, subst, sym, view}
use Rattle.ls_files.specs.declared.cause.Cause.TheVariants as cause
use Rattle.ls_codecs.proofs.Read.{limits-read, odds-read}
use Rattle.ls_store.proofs.Going.{passed_on, some, told-ok, told-err}
use Rattle.ls_store.proofs.reading.session_settings.Goals as goal

pub from_ratios-requires-clause-few : goal.from_ratios-requires-clause-few
from_ratios-requires-clause-few c =
    let d = view c.args.object.now in
    let ratios = c.in_ok-ratios.ratios in
    let f : (odds_field c.args.version c.args.n).find_in d ≡ Some ratios.items = told-ok (λ l. l.items) cause.Odds _ c.read_odds.result ratios c.read_odds.ensures c.in_ok-ratios.ensures in
    subst (λ m. m ≤ most_items) (sym (odds-read c.args.version c.args.n d ratios.items f).0) c.requires

pub from_ratios-requires-clause-ratios : goal.from_ratios-requires-clause-ratios
from_ratios-requires-clause-ratios c =
    let ratios = c.in_ok-ratios.ratios in
    (odds-read c.args.version c.args.n (view c.args.object.now) ratios.items (told-ok (λ l. l.items) cause.Odds _ c.read_odds.result ratios c.read_odds.ensures c.in_ok-ratios.ensures)).1

pub from_ratios-requires-clause-limits : goal.from_ratios-requires-clause-limits
from_ratios-requires-clause-limits c =
    let limits = c.in_ok-limits.limits in
    limits-read (view c.args.object.now) limits (told-ok (λ x. x) cause.Limits _ c.read_limits.result limits c.read_limits.ensures c.in_ok-limits.ensures)

pub returns-clause-settings : goal.returns-clause-settings
returns-clause-settings c =
    let limits = c.in_ok-limits.limits in
    let ratios = c.in_ok-ratios.ratios in
    let e = told-ok (λ x. x) cause.Limits (limits_field.find_in (view c.args.object.now)) c.read_limits.result limits c.read_limits.ensures c.in_ok-limits.ensures in
    let f = told-ok (λ l. l.items) cause.Odds ((odds_field c.args.version c.args.n).find_in (view c.args.object.now)) c.read_odds.result ratios c.read_odds.ensures c.in_ok-ratios.ensures in
    some cause.Limits _ limits _ e ∙ some cause.Odds _ ratios.items _ f ∙ ap Ok (sym c.from_ratios.ensures)

pub returns-clause-items : goal.returns-clause-items
returns-clause-items c =
    let ratios = c.in_ok-ratios.ratios in
    let f = told-ok (λ l. l.items) cause.Odds ((odds_field c.args.version c.args.n).find_in (view c.args.object.now)) c.read_odds.result ratios c.read_odds.ensures c.in_ok-ratios.ensures in
    ap (λ s. length s.ratios) c.from_ratios.ensures ∙ (odds-read c.args.version c.args.n (view c.args.object.now) ratios.items f).0

pub returns-in_err-limits-clause-fault : goal.returns-in_err-limits-clause-fault
returns-in_err-limits-clause-fault c =
    passed_on _ c.in_err-limits.field-0.0 c.from_residual.result c.from_residual.ensures.1
    (told-err (λ x. x) cause.Limits (limits_field.find_in (view c.args.object.now)) c.read_limits.result _ c.in_err-limits.field-0.0 c.read_limits.ensures c.in_err-limits.ensures)

pub returns-in_err-ratios-clause-fault : goal.returns-in_err-ratios-clause-fault
returns-in_err-ratios-clause-fault c =
    let d = view c.args.object.now in
    let limits = c.in_ok-limits.limits in
    let e = told-ok (λ x. x) cause.Limits (limits_field.find_in d) c.read_limits.result limits c.read_limits.ensures c.in_ok-limits.ensures in
    passed_on (settings_in c.args.version c.args.n d) c.in_err-ratios.field-0.0 c.from_residual-in_err-ratios.result c.from_residual-in_err-ratios.ensures.1
    (subst (λ r. IsSessionFault r c.in_err-ratios.field-0.0) (sym (some cause.Limits _ limits _ e))
    (told-err (λ l. l.items) cause.Odds ((odds_field c.args.version c.args.n).find_in d) c.read_odds.result _ c.in_err-ratios.field-0.0 c.read_odds.ensures c.in_err-ratios.ensures))
