use Rattle.ls_infer.proofs.Vocabulary.{◌++◌, ◌∙◌, ◌∷◌, ◌≡◌, Some, [], ap, ap₂, arith, common_steps, mapped-next, slice_get, slice_get-get_or, standing, sym}
use Rattle.ls_infer.proofs.closures.standing_of.Goals as goal

pub loop-answer-preserved : goal.loop-answer-preserved
loop-answer-preserved g c =
    let n = g.I.Interior.item_count c.args.f.now in
    let f = g.I.Interior.members c.args.f.now in
    let i = c.loop-answer.answer-index in
    let a = c.answer-item.result in
    let v = c.loop-answer.invariant in
    let at : slice_get c.args.answers.now i ≡ Some a = slice_get-get_or c.args.answers.now i a c.loop-answer-test.true ∙ ap Some (sym c.answer-item.is) in
    record {
      list = λ states.
          let so = v.list states in
          let new = c.from_closures.ensures.value so.0 in
          (new.0, λ k closed. c.in_ok-push.ensures.items ∙ ap₂ (λ l x. l ++ x ∷ []) (so.1 k closed) (new.1 k closed) ∙ mapped-next (standing n f) c.args.answers.now i a at);
      left = grind (arith, common_steps, v.left);
      cost = grind (arith, common_steps, v.cost, c.from_closures.ensures.cost);
    }
