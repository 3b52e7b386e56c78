use Rattle.std.specs.Prelude.{Vec}
use Rattle.std.specs.declared.alloc.Global.{Global}
use Rattle.ls_store.proofs.Vocabulary.{◌∙◌, ◌≤◌, Ratios, Settings, Some, ap, limits_field, most_items, odds_field, settings_parts, subst, sym, view}
use Rattle.ls_store.proofs.OwnSettings.{no_limits, no_odds, settings-read}
use Rattle.ls_store.proofs.PupilLists.{missed, none-as}
use Rattle.ls_codecs.proofs.Read.{limits-read, odds-read}
use Rattle.ls_store.proofs.pupils.read_settings.Goals as goal

pub from_ratios-requires-clause-few : goal.from_ratios-requires-clause-few
from_ratios-requires-clause-few c =
    subst (λ m. m ≤ most_items) (sym (odds-read c.args.version c.args.n (view c.args.object.now) c.in_ok-ratios.ratios.items c.in_ok-ratios.ensures).0) c.requires

pub from_ratios-requires-clause-ratios : goal.from_ratios-requires-clause-ratios
from_ratios-requires-clause-ratios c = (odds-read c.args.version c.args.n (view c.args.object.now) c.in_ok-ratios.ratios.items c.in_ok-ratios.ensures).1

pub from_ratios-requires-clause-limits : goal.from_ratios-requires-clause-limits
from_ratios-requires-clause-limits c = limits-read (view c.args.object.now) c.in_ok-limits.limits c.in_ok-limits.ensures

pub returns-in_err-limits : goal.returns-in_err-limits
returns-in_err-limits c =
    let d = view c.args.object.now in
    let f = c.in_err-limits.field-0.0 in
    missed settings_parts _ f c.from_residual.result c.from_residual.ensures.1 (λ e. no_limits c.args.version c.args.n d (none-as (λ l. l) (limits_field.find_in d) f e c.in_err-limits.ensures))

pub returns-in_err-ratios : goal.returns-in_err-ratios
returns-in_err-ratios c =
    let d = view c.args.object.now in
    let f = c.in_err-ratios.field-0.0 in
    missed settings_parts _ f c.from_residual-in_err-ratios.result c.from_residual-in_err-ratios.ensures.1
    (λ e. no_odds c.args.version c.args.n d (none-as {Y = Vec Ratios Global} (λ l. l.items) ((odds_field c.args.version c.args.n).find_in d) f e c.in_err-ratios.ensures))

pub returns : goal.returns
returns c =
    settings-read c.args.version c.args.n (view c.args.object.now) c.in_ok-ratios.ratios.items c.in_ok-limits.limits c.in_ok-ratios.ensures c.in_ok-limits.ensures
    ∙ ap (λ (s : Settings). Some (settings_parts s)) (sym c.from_ratios.ensures)
