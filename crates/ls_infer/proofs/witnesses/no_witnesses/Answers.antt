use Rattle.ls_infer.proofs.Vocabulary.{◌++◌, ◌∙◌, ◌∷◌, [], and-true, ap, is_among, list_all, list_all-append}
use Rattle.ls_infer.proofs.witnesses.no_witnesses.Goals as goal

pub loop-item-preserved : goal.loop-item-preserved
loop-item-preserved c = λ f.
    let all = list_all (list_all (is_among f)) in
    let kept = c.loop-item.kept.items in
    ap all (c.in_ok-push.ensures.items ∙ ap (λ w. kept ++ w ∷ []) c.in_ok-new.ensures) ∙ list_all-append (list_all (is_among f)) kept ([] ∷ []) ∙ and-true (all kept) ∙ c.loop-item.invariant f
