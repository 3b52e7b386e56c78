use Rattle.ls_laws.proofs.LeastSets.{atoms-least, same-least}
use Rattle.ls_laws.proofs.after_yes.atoms_are_least.Goals as goal

pub returns : goal.returns
returns c = record { atoms = atoms-least; members = same-least }
