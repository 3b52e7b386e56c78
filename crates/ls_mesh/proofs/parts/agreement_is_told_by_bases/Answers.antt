use Rattle.ls_mesh.proofs.SetParts.{agree-parts, agree-mesh, agree-bases}
use Rattle.ls_mesh.proofs.parts.agreement_is_told_by_bases.Goals as goal

pub returns : goal.returns
returns c = record { projections = agree-parts; mesh = agree-mesh; bases = agree-bases }
