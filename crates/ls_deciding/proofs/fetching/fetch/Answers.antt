use Rattle.ls_deciding.proofs.Vocabulary.{◌∙◌, Err, ap}
use Rattle.ls_deciding.proofs.Fetched.{sees_file}
use Rattle.ls_deciding.proofs.fetching.fetch.Goals as goal

pub returns-in-Ok : goal.returns-in-Ok
returns-in-Ok g c = sees_file c.as_str.ensures c.fetch.ensures.files c.fetch.ensures.cause c.fetch.ensures.calls c.fetch.ensures.last c.in-Ok.is

pub returns-in-Err-Missing : goal.returns-in-Err-Missing
returns-in-Err-Missing g c =
    sees_file c.as_str.ensures c.fetch.ensures.files c.fetch.ensures.cause c.fetch.ensures.calls c.fetch.ensures.last (c.in-Err-Missing.is ∙ ap Err c.in-Err-Missing.field-0-is)

pub returns-in-Err-TooLarge : goal.returns-in-Err-TooLarge
returns-in-Err-TooLarge g c =
    sees_file c.as_str.ensures c.fetch.ensures.files c.fetch.ensures.cause c.fetch.ensures.calls c.fetch.ensures.last (c.in-Err-TooLarge.is ∙ ap Err c.in-Err-TooLarge.field-0-is)

pub returns-in-Err-Failed : goal.returns-in-Err-Failed
returns-in-Err-Failed g c =
    sees_file c.as_str.ensures c.fetch.ensures.files c.fetch.ensures.cause c.fetch.ensures.calls c.fetch.ensures.last (c.in-Err-Failed.is ∙ ap Err c.in-Err-Failed.field-0-is)

pub returns-in-Err-Memory : goal.returns-in-Err-Memory
returns-in-Err-Memory g c =
    sees_file c.as_str.ensures c.fetch.ensures.files c.fetch.ensures.cause c.fetch.ensures.calls c.fetch.ensures.last (c.in-Err-Memory.is ∙ ap Err c.in-Err-Memory.field-0-is)
