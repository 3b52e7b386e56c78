use Rattle.ls_lines.proofs.Vocabulary.{arith, drop, rules, sym, take_rest}
use Rattle.ls_lines.proofs.Cutting.{begun_more, begun_stuck, begun_end}
use Rattle.ls_lines.proofs.reading.begun_length.Goals as goal

pub returns-in_default-clause-value : goal.returns-in_default-clause-value
returns-in_default-clause-value c =
    let rest = drop c.loop-part.count c.args.words.now in
    let none = rw take_rest at c.in_default.ensures.value in
    omega (arith, c.loop-part.invariant.value, begun_stuck c.args.parts.now c.loop-part.part-index _ rest c.loop-part-test.true (sym none))

pub loop-part-preserved : goal.loop-part-preserved
loop-part-preserved c =
    let taken = rw take_rest at c.in-Some.ensures.value in
    let more = begun_more c.args.parts.now c.loop-part.part-index _ c.args.words.now c.loop-part.count c.in-Some.more c.loop-part-test.true (sym taken) in
    record {
      in_range = search rules;
      value = omega (arith, c.loop-part.invariant.value, more);
    }

pub returns-clause-value : goal.returns-clause-value
returns-clause-value c =
    omega (arith, c.loop-part.invariant.value, begun_end c.args.parts.now c.loop-part.part-index (drop c.loop-part.count c.args.words.now) c.loop-part-test.false)
