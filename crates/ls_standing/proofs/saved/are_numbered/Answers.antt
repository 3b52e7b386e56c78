use Rattle.ls_standing.proofs.Vocabulary.{◌∙◌, ap, arith, drop_all, false, inl, inr, sym, true}
use Rattle.ls_standing.proofs.Saving.{rises, rises-decides, falls}
use Rattle.ls_standing.proofs.saved.are_numbered.Goals as goal
use Rattle.ls_standing.proofs.saved.are_numbered.Goals.{then-answer-least-via-then-answer-least, then-answer-least-via-else-answer-least+then-answer-next}

pub returns-then-answer-least : goal.returns-then-answer-least
returns-then-answer-least c =
    rises-decides c.args.next c.args.answers.now false
    (falls c.loop-answer.least c.args.next c.loop-answer.answer-index c.args.answers.now c.answer-item.result c.loop-answer-test.true c.answer-item.is
    (elim c.then-answer-least.branch [
      | then-answer-least-via-then-answer-least w ↦ inl (omega arith)
      | then-answer-least-via-else-answer-least+then-answer-next w ↦ inr (omega arith)
    ]) c.loop-answer.invariant)

pub returns : goal.returns
returns c =
    rises-decides c.args.next c.args.answers.now true (sym (ap (rises c.loop-answer.least c.args.next) (drop_all c.loop-answer.answer-index c.args.answers.now (omega arith))) ∙ c.loop-answer.invariant)
