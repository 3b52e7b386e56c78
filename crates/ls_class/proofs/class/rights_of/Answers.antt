use Rattle.ls_class.proofs.Vocabulary.{◌++◌, ◌+◌, ◌∙◌, ◌∷◌, Items, List, [], ap, length, length-append}
use Rattle.ls_class.proofs.Lines.{rights_next}
use Rattle.ls_class.proofs.class.rights_of.Goals as goal

pub loop-place-preserved : goal.loop-place-preserved
loop-place-preserved c = record {
  rights = c.in_ok-push.ensures.items ∙ ap (λ (l : List Items). l ++ c.row-right.result.1 ∷ []) c.loop-place.invariant.rights ∙ rights_next c.args.t.now c.loop-place.place _ c.row-right.ensures;
  count = ap length c.in_ok-push.ensures.items ∙ length-append c.loop-place.rights.items (c.row-right.result.1 ∷ []) ∙ ap (λ n. n + 1) c.loop-place.invariant.count;
}
