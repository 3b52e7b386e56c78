use Rattle.ls_skill.proofs.Skilled.{base-skills, fewest-skills, any-base, fewest-of}
use Rattle.ls_skill.proofs.skills.bases_are_least_maps.Goals as goal

pub returns : goal.returns
returns c =
    record { sets = base-skills; count = fewest-skills; family = any-base; fewest = fewest-of }
