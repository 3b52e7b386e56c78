use Rattle.ls_enum.proofs.Vocabulary.{◌≤◌, length}
use Rattle.ls_enum.proofs.widest.WidestMembers.drop_above.Given as goal

-- so many widest members are looked at still
abbrev pub invariant-loop-count : goal.invariant-loop-count
invariant-loop-count l = l.count ≤ length l.held

abbrev pub decreases-loop-count : goal.decreases-loop-count
decreases-loop-count l = l.count
