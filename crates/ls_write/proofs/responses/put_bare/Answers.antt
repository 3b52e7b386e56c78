use Rattle.ls_write.proofs.Vocabulary.{[], started}
use Rattle.ls_write.proofs.responses.put_bare.Goals as goal

pub returns : goal.returns
returns g c = c.put_unshown.ensures (started []) (started []).interview
