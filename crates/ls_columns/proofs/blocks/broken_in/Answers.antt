use Rattle.ls_columns.proofs.Vocabulary.{ap, drop_all, fallen_by, joined, sym, union, union-empty_left, union-empty_right, ◌∙◌}
use Rattle.ls_columns.proofs.Asked.{blocks-step}
use Rattle.ls_columns.proofs.blocks.broken_in.Goals as goal

pub loop-block-init : goal.loop-block-init
loop-block-init c = rw c.empty-broken.ensures (union-empty_left (fallen_by (joined c.args.blocks.now) c.args.fallen c.args.kept))

pub loop-block-preserved : goal.loop-block-preserved
loop-block-preserved c =
    rw (c.union-broken.ensures, c.broken.ensures)
    (blocks-step c.args.blocks.now c.loop-block.block-index c.block-item.result c.args.fallen c.args.kept c.loop-block.broken _ c.loop-block-test.true c.block-item.is c.loop-block.invariant)

pub returns : goal.returns
returns c =
    let none = drop_all c.loop-block.block-index c.args.blocks.now c.loop-block-test.false in
    sym (union-empty_right c.loop-block.broken) ∙ ap (λ l. union c.loop-block.broken (fallen_by (joined l) c.args.fallen c.args.kept)) (sym none) ∙ c.loop-block.invariant
