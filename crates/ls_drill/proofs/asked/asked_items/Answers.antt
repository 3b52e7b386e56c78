use Rattle.ls_drill.proofs.Vocabulary.{◌||◌, ◌∙◌, ap, has, has-empty, list_any, sym}
use Rattle.std.proofs.lemmas.List.{drop_all}
use Rattle.std.proofs.Math.Bool.{or-false}
use Rattle.ls_set.specs.{is_same}
use Rattle.ls_drill.proofs.Askings.{asked-step, asks}
use Rattle.ls_drill.proofs.asked.asked_items.Goals as goal
use Rattle.ls_drill.proofs.asked.asked_items.Goals.{then-eq, else-eq}

pub loop-answer-init : goal.loop-answer-init
loop-answer-init c = λ q. ap (λ s. has s q || list_any (asks c.args.set q) c.args.answers.now) c.empty-items.ensures ∙ ap (λ b. b || list_any (asks c.args.set q) c.args.answers.now) (has-empty q)

pub loop-answer-preserved : goal.loop-answer-preserved
unfolding is_same
loop-answer-preserved c = λ q.
    let a = c.answer-item.result in
    let step = asked-step c.args.answers.now c.args.set c.loop-answer.items c.loop-answer.answer-index q a _ c.loop-answer-test.true c.answer-item.is (c.loop-answer.invariant q) in
    elim c.if-eq.branch [
      | then-eq w ↦ rw (w.items-is, w.with-items.ensures) (rw (sym c.eq.ensures ∙ w.if-eq.true) at step)
      | else-eq w ↦ rw w.items-is (rw (sym c.eq.ensures ∙ w.if-eq.false) at step)
    ]

pub returns : goal.returns
returns c = λ q.
    sym (or-false (has c.loop-answer.items q))
    ∙ ap (λ l. has c.loop-answer.items q || list_any (asks c.args.set q) l) (sym (drop_all c.loop-answer.answer-index c.args.answers.now c.loop-answer-test.false))
    ∙ c.loop-answer.invariant q
