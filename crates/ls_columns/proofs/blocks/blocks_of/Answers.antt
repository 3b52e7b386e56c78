use Rattle.ls_columns.proofs.Vocabulary.{List, Query, ap, ap₂, joined, take-append-drop, ◌++◌, ◌∙◌, ◌≡◌}
use Rattle.ls_columns.proofs.Asked.{joined-push}
use Rattle.ls_columns.proofs.blocks.blocks_of.Goals as goal

pub loop-left-preserved : goal.loop-left-preserved
loop-left-preserved c =
    let left = c.loop-left.left.now in
    let blocks = c.loop-left.blocks.items in
    let b = c.in_ok-new.field-0 in
    let back = c.split_at.result.1.now in
    let whole : b ++ back ≡ left = ap₂ (λ (x y : List Query). x ++ y) (c.in_ok-new.ensures ∙ c.split_at.ensures.front) c.split_at.ensures.back ∙ take-append-drop c.min.result left in
    ap (λ bs. joined bs ++ back) c.in_ok-push.ensures.items ∙ joined-push blocks b back ∙ ap (λ l. joined blocks ++ l) whole ∙ c.loop-left.invariant
