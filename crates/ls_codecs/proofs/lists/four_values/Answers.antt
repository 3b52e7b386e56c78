use Rattle.ls_codecs.proofs.Vocabulary.{arith}
use Rattle.ls_codecs.proofs.Walks.{four-none}
use Rattle.ls_codecs.proofs.lists.four_values.Goals as goal

pub returns-else-len-eq4 : goal.returns-else-len-eq4
returns-else-len-eq4 c = four-none _ c.in_ok-values.values.now.items c.in_ok-values.ensures (λ e. omega arith)
