use Rattle.ls_space.proofs.Vocabulary.{◌-◌, length}
use Rattle.ls_space.proofs.unions.moved.Given as goal

abbrev pub decreases-loop-place : goal.decreases-loop-place
decreases-loop-place l = length l.sets - l.place
