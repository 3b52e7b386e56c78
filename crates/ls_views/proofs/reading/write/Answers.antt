use Rattle.ls_views.proofs.Vocabulary.{wrote}
use Rattle.ls_views.proofs.reading.write.Goals as goal

pub returns-clause-wrote : goal.returns-clause-wrote
returns-clause-wrote g c = λ s. wrote c.requires.empty (c.put_response.ensures.says s) c.finish.ensures.ends
