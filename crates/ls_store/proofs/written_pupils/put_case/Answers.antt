use Rattle.ls_store.proofs.Vocabulary.{◌∙◌, ◌≡◌, Query, List, Reply, ap, codes, lists, no_members, object, query_codec, reply_codec, rules, string, view}
use Rattle.std.proofs.lemmas.Result.{on_ok_weaker}
use Rattle.ls_store.proofs.Putting.{then_put, then_settings}
use Rattle.ls_store.proofs.written_pupils.put_case.Goals as goal

pub returns : goal.returns
returns c =
    let p = c.args.case.now in
    let n = c.args.n in
    let replies : view c.in_ok-replies.replies ≡ (lists (reply_codec n)).write p.pupil.replies = c.in_ok-replies.ensures ∙ ap (λ (rs : List Reply). (lists (reply_codec n)).write rs) c.replies.ensures.value in
    let own : view c.in_ok-yes.yes ≡ (lists (query_codec n)).write p.yes = c.in_ok-yes.ensures ∙ ap (λ (rs : List Query). (lists (query_codec n)).write rs) c.as_slice.ensures in
    let name : view c.in_ok-name.name ≡ string p.name = search rules in
    on_ok_weaker c.put_at-4.result (λ h. ap object
    (then_put (codes "name") _ _ _ _ _ h name
    (then_settings n p.settings _ _ _ c.in_ok-put_settings.ensures
    (then_put (codes "start") _ _ _ _ _ c.in_ok-put_at-3.ensures c.in_ok-start.ensures
    (then_put (codes "yes") _ _ _ _ _ c.in_ok-put_at-2.ensures own
    (then_put (codes "replies") _ _ _ no_members _ c.in_ok-put_at.ensures replies c.requires.empty)))))) c.put_at-4.ensures
