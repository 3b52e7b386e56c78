use Rattle.ls_state.proofs.Vocabulary.{◌∙◌, Err, ap}
use Rattle.ls_state.proofs.Stored.{decides_stored, decides_failed, decides_unstored}
use Rattle.ls_state.proofs.state.files.store.Goals as goal

pub returns-in-Ok : goal.returns-in-Ok
returns-in-Ok g c = λ s. decides_stored s _ _ _ _ _ _ c.as_str.ensures c.store.ensures.files c.store.ensures.cause c.store.ensures.calls c.store.ensures.last _ c.in-Ok.is

pub returns-in-Err-Failed : goal.returns-in-Err-Failed
returns-in-Err-Failed g c = λ s.
    decides_failed s _ _ _ _ _ _ c.as_str.ensures c.store.ensures.files c.store.ensures.cause c.store.ensures.calls c.store.ensures.last (c.in-Err-Failed.is ∙ ap Err c.in-Err-Failed.field-0-is)

pub returns-in-Err-Memory : goal.returns-in-Err-Memory
returns-in-Err-Memory g c = λ s.
    decides_unstored s _ _ _ _ _ _ c.as_str.ensures c.store.ensures.files c.store.ensures.cause c.store.ensures.calls c.store.ensures.last _ (c.in-Err-Memory.is ∙ ap Err c.in-Err-Memory.field-0-is)
