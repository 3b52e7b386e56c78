use Rattle.ls_columns.proofs.Vocabulary.{joined, length, ◌++◌, ◌≡◌}
use Rattle.ls_columns.proofs.blocks.blocks_of.Given as goal

-- the rules of the blocks, and those that are left, are all rules
abbrev pub invariant-loop-left : goal.invariant-loop-left
invariant-loop-left l = joined l.blocks.items ++ l.left ≡ l.rules

abbrev pub decreases-loop-left : goal.decreases-loop-left
decreases-loop-left l = length l.left
