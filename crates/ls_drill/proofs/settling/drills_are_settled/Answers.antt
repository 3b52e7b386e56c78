use Rattle.ls_drill.proofs.SettledDrills.{drilled-settled}
use Rattle.ls_drill.proofs.settling.drills_are_settled.Goals as goal

pub returns : goal.returns
returns c n number = drilled-settled n number
