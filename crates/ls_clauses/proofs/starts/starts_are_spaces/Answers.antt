use Rattle.ls_clauses.proofs.Vocabulary.{compat-IsFamily}
use Rattle.ls_clauses.proofs.Covers.{start-space, start-sound}
use Rattle.ls_clauses.proofs.starts.starts_are_spaces.Goals as goal

pub returns : goal.returns
returns c = record { family = compat-IsFamily; space = start-space; sound = start-sound }
