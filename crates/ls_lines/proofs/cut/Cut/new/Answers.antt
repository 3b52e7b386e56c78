use Rattle.ls_lines.proofs.Vocabulary.{◌+◌, ◌-◌, ◌∙◌, ◌≡◌, arith, drop, map, map-append, rules, sym, take, take_rest}
use Rattle.ls_lines.proofs.Ascii.{all-ascii}
use Rattle.ls_lines.proofs.Cutting.{cut_more, cut_stuck, cut_left, cut_done}
use Rattle.ls_lines.proofs.cut.Cut.new.Goals as goal

pub loop-part-preserved : goal.loop-part-preserved
loop-part-preserved c =
    let taken = rw take_rest at c.in_ok-end.ensures.value in
    let ascii = rw take_rest at c.in_ok-end.ensures.ascii in
    let m = c.in_ok-end.field-0 in
    let count : c.loop-part.start + m - c.loop-part.start ≡ m = omega arith in
    let given = map (λ p. p.now) c.loop-part.parts.items in
    let more = cut_more c.args.form.now c.loop-part.part-index _ c.args.words.now c.loop-part.start m given c.loop-part-test.true (sym taken) in
    record {
      in_range = search rules;
      each = search rules;
      value = rw (c.push.ensures.items, map-append, count) (more ∙ c.loop-part.invariant.value);
      ascii = rw (c.push.ensures.items, map-append, count) (all-ascii given (take m (drop c.loop-part.start c.args.words.now)) c.loop-part.invariant.ascii ascii);
    }

pub returns-in_err-end-clause-words : goal.returns-in_err-end-clause-words
returns-in_err-end-clause-words c =
    let none = rw take_rest at c.in_err-end.ensures.value in
    let given = map (λ p. p.now) c.loop-part.parts.items in
    c.from_residual.ensures ∙ sym (cut_stuck c.args.form.now c.loop-part.part-index _ (drop c.loop-part.start c.args.words.now) given c.loop-part-test.true (sym none)) ∙ c.loop-part.invariant.value

pub returns-then-start-words-clause-words : goal.returns-then-start-words-clause-words
returns-then-start-words-clause-words c =
    sym (cut_left c.args.form.now c.loop-part.part-index c.args.words.now c.loop-part.start (map (λ p. p.now) c.loop-part.parts.items) c.loop-part-test.false (omega arith)) ∙ c.loop-part.invariant.value

pub returns-clause-words : goal.returns-clause-words
returns-clause-words c =
    sym (cut_done c.args.form.now c.loop-part.part-index c.args.words.now c.loop-part.start (map (λ p. p.now) c.loop-part.parts.items) c.loop-part-test.false (omega arith)) ∙ c.loop-part.invariant.value
