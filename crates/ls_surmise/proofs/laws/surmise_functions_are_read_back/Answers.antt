use Rattle.ls_surmise.proofs.ReadBack.{surmise-back}
use Rattle.ls_surmise.proofs.laws.surmise_functions_are_read_back.Goals as goal

pub returns : goal.returns
returns c = surmise-back
