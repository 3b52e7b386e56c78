use Rattle.ls_class.proofs.Vocabulary.{◌*◌, ◌+◌, ◌-◌, length}
use Rattle.ls_class.proofs.tree.+tree.Given as goal

-- four times the replies that are left, and then by which function calls which

abbrev pub decreases-replay_all : goal.decreases-replay_all
decreases-replay_all l = 4 * (l.pupil.settings.budget - length l.pupil.replies) + 3

abbrev pub decreases-replay_asked : goal.decreases-replay_asked
decreases-replay_asked l = 4 * (l.pupil.settings.budget - length l.pupil.replies) + 2

abbrev pub decreases-replay_parted : goal.decreases-replay_parted
decreases-replay_parted l = 4 * (l.pupil.settings.budget - length l.pupil.replies) + 1

abbrev pub decreases-replay_after : goal.decreases-replay_after
decreases-replay_after l = 4 * (l.pupil.settings.budget - length l.pupil.replies)
