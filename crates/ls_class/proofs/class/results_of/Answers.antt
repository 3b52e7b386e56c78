use Rattle.ls_class.proofs.Vocabulary.{◌++◌, ◌∙◌, ◌∷◌, [], ap₂, arith, sym}
use Rattle.ls_class.proofs.Lines.{lines_next}
use Rattle.ls_class.proofs.class.results_of.Goals as goal

pub loop-place-preserved : goal.loop-place-preserved
loop-place-preserved c =
    c.in_ok-push.ensures.ok
    ∙ ap₂ (λ lines line. lines ++ line ∷ []) c.loop-place.invariant c.in_ok-known.ensures
    ∙ sym (lines_next c.args.t.now c.args.replays.now c.loop-place.place _ c.index-replays-place.result c.row.ensures (omega (arith, c.requires, c.len-place-end.ensures.value, c.loop-place-test.true)) c.index-replays-place.is)
