use Rattle.ls_columns.proofs.Vocabulary.{drop, fallen_by, joined, union, ◌≡◌}
use Rattle.ls_columns.proofs.blocks.broken_in.Given as goal

-- with what the blocks that are left give it is the whole
abbrev pub invariant-loop-block : goal.invariant-loop-block
invariant-loop-block l = union l.broken (fallen_by (joined (drop l.block-index l.blocks)) l.fallen l.kept) ≡ fallen_by (joined l.blocks) l.fallen l.kept
