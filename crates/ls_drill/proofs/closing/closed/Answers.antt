use Rattle.ls_drill.proofs.Vocabulary.{◌∙◌}
use Rattle.ls_drill.proofs.Closures.{none-before}
use Rattle.ls_drill.proofs.closing.closed.Goals as goal

pub put_all-requires-clause-none : goal.put_all-requires-clause-none
put_all-requires-clause-none c a q = none-before c.args.n c.deref_mut.result.now (c.deref_mut.ensures.value ∙ c.in_ok-after.ensures) a q
