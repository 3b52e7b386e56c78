use Rattle.ls_store.proofs.Vocabulary.{◌∙◌, ap, members_view}
use Rattle.serde_json.proofs.Views.{view-Object}
use Rattle.ls_store.proofs.written_pupils.case_value.Goals as goal

pub put_case-requires-clause-empty : goal.put_case-requires-clause-empty
put_case-requires-clause-empty c = ap members_view c.new-map.ensures.empty

pub returns-in-Ok : goal.returns-in-Ok
returns-in-Ok c = view-Object _ ∙ c.in-Ok.ensures
