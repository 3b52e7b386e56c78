use Rattle.ls_store.proofs.Vocabulary.{◌<◌, ◌∙◌, ◌≤◌, Items, List, [], ap, breaks_none, compat, filter, length, most_states}
use Rattle.ls_store.proofs.PupilStates.{states-kept, states-many}
use Rattle.ls_store.proofs.replaying.listed.Goals as goal

pub returns-in-Ok : goal.returns-in-Ok
returns-in-Ok g c =
    let is = c.in-Ok.ensures.members ∙ ap (λ r. filter (breaks_none r.rules) (compat r.inner.item_count r.inner.start [])) (c.new-2.ensures ∙ c.in_ok-columns.ensures) in
    let few : length c.in-Ok.states ≤ most_states = let same = ap (λ (l : List Items). length l) c.in-Ok.ensures.members in rw same c.in-Ok.ensures.fits in
    states-kept c.in-Ok.states _ is few

pub returns-in-Err-More : goal.returns-in-Err-More
returns-in-Err-More g c =
    let r = c.new-2.result in
    let sets = filter (breaks_none r.rules) (compat r.inner.item_count r.inner.start []) in
    let is = ap (λ r. filter (breaks_none r.rules) (compat r.inner.item_count r.inner.start [])) (c.new-2.ensures ∙ c.in_ok-columns.ensures) in
    let many : most_states < length sets = let h = c.in-Err-More.is in let k = c.in-Err-More.field-0-is in c.list_all.ensures.more cc in
    states-many sets _ is many
