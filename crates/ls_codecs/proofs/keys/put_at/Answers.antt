use Rattle.ls_codecs.proofs.Vocabulary.{◌∙◌, ap, members_view}
use Rattle.serde_json.proofs.Views.{members_view-insert_entry}
use Rattle.ls_codecs.proofs.keys.put_at.Goals as goal

pub returns : goal.returns
returns c =
    let found = ap members_view c.in_ok-insert.ensures.entries ∙ members_view-insert_entry c.args.map.now.entries c.in_ok-from_str.field-0 c.args.value in
    rw c.in_ok-from_str.ensures.ok at found
