use Rattle.ls_room.proofs.Vocabulary.{arith, common_steps}
use Rattle.ls_room.proofs.Digits.{cursor-written, group-written}
use Rattle.ls_room.proofs.set_texts.write_digits.Goals as goal

pub loop-group-init : goal.loop-group-init
loop-group-init c = record { long = c.told-digits; written = λ k l. absurd (omega arith) }

pub loop-group-preserved : goal.loop-group-preserved
loop-group-preserved c =
    let l = c.loop-group in
    let pattern = c.group-pattern in
    record {
      long = grind (arith, common_steps);
      written = group-written c.args.s l.digits l.group pattern.result (omega arith) (omega arith)
          pattern.ensures l.invariant.written;
    }

pub returns : goal.returns
returns c =
    let l = c.loop-group in
    let end = c.div_ceil-group-end.ensures in
    cursor-written c.args.s l.digits c.args.n (omega arith)
    (λ k h. l.invariant.written k (omega (arith, end)))
