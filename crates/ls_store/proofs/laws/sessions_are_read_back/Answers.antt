use Rattle.ls_codecs.proofs.RoundTrip.{read_back}
use Rattle.ls_codecs.proofs.Read.{read_whole}
use Rattle.ls_store.proofs.laws.sessions_are_read_back.Goals as goal

pub returns-clause-back : goal.returns-clause-back
returns-clause-back c = read_back

pub returns-clause-whole : goal.returns-clause-whole
returns-clause-whole c = read_whole
