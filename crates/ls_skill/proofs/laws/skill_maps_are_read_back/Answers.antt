use Rattle.ls_skill.proofs.ReadBack.{map-back}
use Rattle.ls_skill.proofs.laws.skill_maps_are_read_back.Goals as goal

pub returns : goal.returns
returns c = map-back
