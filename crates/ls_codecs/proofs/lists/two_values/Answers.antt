use Rattle.ls_codecs.proofs.Vocabulary.{arith}
use Rattle.ls_codecs.proofs.Walks.{two-none}
use Rattle.ls_codecs.proofs.lists.two_values.Goals as goal

pub returns-else-len-eq2 : goal.returns-else-len-eq2
returns-else-len-eq2 c = two-none _ c.in_ok-values.values.now.items c.in_ok-values.ensures (λ e. omega arith)
