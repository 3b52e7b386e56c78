use Rattle.ls_base.proofs.Vocabulary.{arith}
use Rattle.ls_base.proofs.Trails.{let_go-more}
use Rattle.ls_base.proofs.trail.let_go.Goals as goal

pub loop-kept-preserved : goal.loop-kept-preserved
loop-kept-preserved c =
    let_go-more _ c.loop-kept.entries.items _ c.loop-kept.invariant (omega arith) c.remove-oldest.ensures.items (omega (arith, c.remove-oldest.ensures.len))

pub loop-kept-preserved-then-len-gt2 : goal.loop-kept-preserved-then-len-gt2
loop-kept-preserved-then-len-gt2 c =
    let_go-more _ c.loop-kept.entries.items _ c.loop-kept.invariant (omega arith) c.remove-oldest.ensures.items (omega (arith, c.remove-oldest.ensures.len))
