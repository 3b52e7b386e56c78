use Rattle.ls_columns.proofs.Vocabulary.{AreColumns, take}
use Rattle.ls_columns.proofs.block.columns_of.Given as goal

-- the columns of the rules before the place
abbrev pub invariant-loop-place : goal.invariant-loop-place
invariant-loop-place l = AreColumns (take l.place l.rules) l.columns.items
