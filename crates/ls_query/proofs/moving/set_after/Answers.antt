use Rattle.ls_query.proofs.Vocabulary.{arith, sym}
use Rattle.ls_query.proofs.Steps.{find-moved, find-next_size, find-past, find-too_large}
use Rattle.ls_query.proofs.moving.set_after.Goals as goal

pub returns-then-size-k : goal.returns-then-size-k
returns-then-size-k c = sym (find-too_large c.args.n c.args.k c.args.a (omega (arith, c.if-size-k.true, c.len-size.ensures)))

pub returns-in-Some : goal.returns-in-Some
returns-in-Some c = rw c.moved.ensures (sym (find-moved c.args.n c.args.k c.args.a c.in-Some.i c.requires.within (omega (arith, c.if-size-k.false, c.len-size.ensures)) c.in-Some.ensures))

pub returns-in-None : goal.returns-in-None
returns-in-None c = rw (c.full.ensures, c.len-size.ensures) (sym (find-next_size c.args.n c.args.k c.args.a c.requires.sizes (omega (arith, c.if-size-k-2.true, c.len-size.ensures)) c.in-None.ensures))

pub returns-in-None-2 : goal.returns-in-None-2
returns-in-None-2 c = sym (find-past c.args.n c.args.k c.args.a (omega (arith, c.if-size-k-2.false, c.len-size.ensures)) c.in-None-2.ensures)
