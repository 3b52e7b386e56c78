use Rattle.ls_laws.proofs.Accepting.{begun-sound, yes_added, no_added, taken_out}
use Rattle.ls_laws.proofs.changes.changes_keep_a_space.Goals as goal

pub returns : goal.returns
returns c = record { begun = begun-sound; with_yes = yes_added; with_no = no_added; retracted = taken_out }
