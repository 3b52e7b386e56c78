use Rattle.ls_store.proofs.Vocabulary.{◌∙◌, ap, members_view}
use Rattle.serde_json.proofs.Views.{view-Object}
use Rattle.ls_store.proofs.printing.session_value.Goals as goal

pub put_parts-requires-clause-empty : goal.put_parts-requires-clause-empty
put_parts-requires-clause-empty c = ap members_view c.new-map.ensures.empty

pub returns-in-Ok : goal.returns-in-Ok
returns-in-Ok c = view-Object _ ∙ c.in-Ok.ensures
