use Rattle.ls_set.proofs.Vocabulary.{◌<◌, ◌≤◌, ◌≡◌, ℕ, get_or}
use Rattle.ls_set.proofs.item_set.ItemSet.least_from.Given as goal

-- the lanes so far have no digit
abbrev pub invariant-loop-place : goal.invariant-loop-place
invariant-loop-place l = (k : ℕ) → l.initial.first ≤ k → k < l.place → get_or l.lanes k 0 ≡ 0
