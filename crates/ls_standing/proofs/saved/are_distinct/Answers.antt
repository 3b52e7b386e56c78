use Rattle.ls_standing.proofs.Vocabulary.{◌∙◌, ap, arith, drop_all, false, sym, true}
use Rattle.ls_standing.proofs.Saving.{apart, apart-decides, repeats}
use Rattle.ls_standing.proofs.saved.are_distinct.Goals as goal

pub returns-then-has_answer : goal.returns-then-has_answer
returns-then-has_answer c =
    apart-decides c.args.answers.now false
    (repeats c.loop-place.place c.args.answers.now c.index-answers-place.result c.loop-place-test.true c.index-answers-place.is (sym c.if-has_answer.true ∙ c.has_answer.ensures) c.loop-place.invariant)

pub returns : goal.returns
returns c = apart-decides c.args.answers.now true (sym (ap apart (drop_all c.loop-place.place c.args.answers.now (omega arith))) ∙ c.loop-place.invariant)
