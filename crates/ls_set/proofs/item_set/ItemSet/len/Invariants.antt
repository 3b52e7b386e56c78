use Rattle.ls_set.proofs.Vocabulary.{◌≡◌, ◌+◌, ◌*◌, ◌≤◌, joined, ones}
use Rattle.std.proofs.Common.{drop}
use Rattle.ls_set.proofs.item_set.ItemSet.len.Given as goal

-- the digits counted so far, with those of the lanes that are left, are all
abbrev pub invariant-loop-lane : goal.invariant-loop-lane
invariant-loop-lane l = (l.count + ones (joined (drop l.lane-index l.lane-items)) ≡ ones (joined l.lane-items)) × (l.count ≤ 64 * l.lane-index)
