use Rattle.ls_base.proofs.Vocabulary.{◌++◌, ◌≡◌, gained_below}
use Rattle.ls_base.proofs.left.push_all_gained.Given as goal

abbrev pub invariant-loop-i : goal.invariant-loop-i
invariant-loop-i l = l.left.items ≡ l.initial.left.items ++ gained_below l.staying l.broken l.near l.i
