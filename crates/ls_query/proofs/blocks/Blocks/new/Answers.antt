use Rattle.ls_query.proofs.Vocabulary.{arith, inl, inr, sym}
use Rattle.ls_query.proofs.Counted.{made-bad, made-ok, made-wide}
use Rattle.ls_query.proofs.blocks.Blocks.new.Goals as goal
use Rattle.ls_query.proofs.blocks.Blocks.new.Goals.{then-k-eq0-via-then-k-eq0, then-k-eq0-via-else-k-eq0+then-k-max}

pub returns-then-k-eq0-clause-value : goal.returns-then-k-eq0-clause-value
returns-then-k-eq0-clause-value c = sym (made-bad c.args.n c.args.k (elim c.then-k-eq0.branch [
  | then-k-eq0-via-then-k-eq0 w ↦ inl w.if-k-eq0.true
  | then-k-eq0-via-else-k-eq0+then-k-max w ↦ inr (omega (arith, w.max.ensures, w.if-k-max.true))
]))

pub returns-in-Ok-clause-value : goal.returns-in-Ok-clause-value
returns-in-Ok-clause-value c = sym (made-ok c.args.n c.args.k c.if-k-eq0.false (omega (arith, c.max.ensures, c.if-k-max.false)) c.in-Ok.ensures.all)

pub returns-in-Err-clause-value : goal.returns-in-Err-clause-value
returns-in-Err-clause-value c = sym (made-wide c.args.n c.args.k c.in-Err.size c.if-k-eq0.false (omega (arith, c.max.ensures, c.if-k-max.false)) (c.count_sets.ensures.past c.in-Err.size c.in-Err.is))
