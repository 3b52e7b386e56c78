use Rattle.ls_domain.proofs.Numbers.{AreNames-nil}
use Rattle.ls_domain.proofs.names.Names.new.Goals as goal

pub invariant_of-result : goal.invariant_of-result
invariant_of-result c = rw c.new.ensures.empty AreNames-nil
