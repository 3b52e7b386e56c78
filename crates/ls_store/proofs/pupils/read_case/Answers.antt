use Rattle.ls_store.proofs.Vocabulary.{◌&&◌, ◌∙◌, List, PupilCase, Query, Weighing, ap, are_apart, is_good, is_name, is_same_query, list_all, pupil_codec, start_of, sym, view}
use Rattle.ls_store.proofs.CaseParts.{followed, lost, is-after, with_replies, second, is-case}
use Rattle.ls_store.proofs.OwnSettings.{settings-count}
use Rattle.ls_store.proofs.PupilParts.{own_pupil, bad_spelling, not_followed, all_parts}
use Rattle.ls_store.proofs.pupils.read_case.Goals as goal

pub pupil_after-requires-clause-items : goal.pupil_after-requires-clause-items
pupil_after-requires-clause-items g c = settings-count c.args.version c.args.n (view c.args.object.now) c.in_ok-settings.settings c.in_ok-settings.ensures

pub returns-then-not-fits-clause-value : goal.returns-then-not-fits-clause-value
returns-then-not-fits-clause-value g c =
    let n = c.args.n in
    let name = c.args.name in
    let spelled = c.in_ok-fits.ensures ∙ ap (λ (qs : List Query). is_name name && list_all (is_good n) qs && are_apart is_same_query qs) c.as_slice.ensures in
    bad_spelling c.args.version n (view c.args.object.now) name c.requires.name c.in_ok-settings.settings c.in_ok-settings.ensures c.in_ok-yes.yes c.in_ok-replies.replies.items
    (start_of c.in_ok-start.start) c.in_ok-yes.ensures c.in_ok-replies.ensures c.in_ok-start.ensures.value (sym spelled ∙ c.if-not-fits.true)

pub returns-in-Some-clause-value : goal.returns-in-Some-clause-value
returns-in-Some-clause-value g c =
    let n = c.args.n in
    let v = c.args.version in
    let d = view c.args.object.now in
    let name = c.args.name in
    let s = c.in_ok-settings.settings in
    let own = c.in_ok-yes.yes in
    let rs = c.in_ok-replies.replies.items in
    let start = start_of c.in_ok-start.start in
    let w = c.in-Some.pupil in
    let spelled = c.in_ok-fits.ensures ∙ ap (λ (qs : List Query). is_name name && list_all (is_good n) qs && are_apart is_same_query qs) c.as_slice.ensures in
    let can = followed n s start own c.as_slice-2.result.now rs c.deref.result.now c.in_ok-pupil.field-0 c.as_slice-2.ensures c.deref.ensures.value c.in_ok-pupil.ensures.stands w c.in-Some.is in
    let is = is-after n s start own c.as_slice-2.result.now rs c.deref.result.now c.in_ok-pupil.field-0 c.as_slice-2.ensures c.deref.ensures.value c.in_ok-pupil.ensures.stands w c.in-Some.is c.in_ok-pupil.ensures.pupil in
    let e = c.in_ok-settings.ensures in
    let f = c.in_ok-yes.ensures in
    let h = c.in_ok-replies.ensures in
    let k = c.in_ok-start.ensures.value in
    with_replies (own_pupil v n d name c.requires.name s e own rs start f h k) w ((pupil_codec v n).read d) (ap (λ (x : Weighing). x.replies) is)
    (all_parts v n d name c.requires.name s e own rs start f h k (sym spelled ∙ c.if-not-fits.false) can)

pub returns-in-Some-clause-case : goal.returns-in-Some-clause-case
returns-in-Some-clause-case g c =
    let n = c.args.n in
    let v = c.args.version in
    let d = view c.args.object.now in
    let name = c.args.name in
    let s = c.in_ok-settings.settings in
    let own = c.in_ok-yes.yes in
    let rs = c.in_ok-replies.replies.items in
    let start = start_of c.in_ok-start.start in
    let w = c.in-Some.pupil in
    let spelled = c.in_ok-fits.ensures ∙ ap (λ (qs : List Query). is_name name && list_all (is_good n) qs && are_apart is_same_query qs) c.as_slice.ensures in
    let can = followed n s start own c.as_slice-2.result.now rs c.deref.result.now c.in_ok-pupil.field-0 c.as_slice-2.ensures c.deref.ensures.value c.in_ok-pupil.ensures.stands w c.in-Some.is in
    let is = is-after n s start own c.as_slice-2.result.now rs c.deref.result.now c.in_ok-pupil.field-0 c.as_slice-2.ensures c.deref.ensures.value c.in_ok-pupil.ensures.stands w c.in-Some.is c.in_ok-pupil.ensures.pupil in
    let case : PupilCase = record { name = name; start = c.in_ok-start.start; yes = own; settings = s; pupil = w } in
    is-case n case rs is can (settings-count v n d s c.in_ok-settings.ensures) c.in_ok-start.ensures.on
    (second (is_name name) (list_all (is_good n) own) (are_apart is_same_query own) (sym spelled ∙ c.if-not-fits.false))

pub returns-in-None-clause-value : goal.returns-in-None-clause-value
returns-in-None-clause-value g c =
    let n = c.args.n in
    let name = c.args.name in
    let s = c.in_ok-settings.settings in
    let own = c.in_ok-yes.yes in
    let rs = c.in_ok-replies.replies.items in
    let start = start_of c.in_ok-start.start in
    let spelled = c.in_ok-fits.ensures ∙ ap (λ (qs : List Query). is_name name && list_all (is_good n) qs && are_apart is_same_query qs) c.as_slice.ensures in
    let cannot = lost n s start own c.as_slice-2.result.now rs c.deref.result.now c.in_ok-pupil.field-0 c.as_slice-2.ensures c.deref.ensures.value c.in_ok-pupil.ensures.stands c.in-None.is in
    not_followed c.args.version n (view c.args.object.now) name c.requires.name s c.in_ok-settings.ensures own rs start
    c.in_ok-yes.ensures c.in_ok-replies.ensures c.in_ok-start.ensures.value (sym spelled ∙ c.if-not-fits.false) cannot
