use Rattle.ls_paths.proofs.Growths.{learning-from}
use Rattle.ls_paths.proofs.PathOrder.{paths-begin, paths-next}
use Rattle.ls_paths.proofs.laws.paths_are_found.Goals as goal

pub returns : goal.returns
returns c = record { first = paths-begin; next = λ n f order small h. paths-next n f order (learning-from n f small h) }
