use Rattle.ls_paths.proofs.Vocabulary.{◌≡◌, empty, grown_to, take}
use Rattle.ls_paths.proofs.order.set_of.Given as goal

-- the set of the items so far
abbrev pub invariant-loop-item : goal.invariant-loop-item
invariant-loop-item l = l.set ≡ grown_to empty (take l.item-index l.items)
