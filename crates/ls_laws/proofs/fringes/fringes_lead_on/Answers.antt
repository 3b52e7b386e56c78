use Rattle.ls_laws.proofs.WellGraded.{learning-parts}
use Rattle.ls_laws.proofs.ReadBack.{outer_towards, inner_towards}
use Rattle.ls_laws.proofs.fringes.fringes_lead_on.Goals as goal

pub returns : goal.returns
returns c = record {
  out = λ n f small h. let p = learning-parts n f small h in outer_towards n f p.0 p.1;
  back = λ n f small h. let p = learning-parts n f small h in inner_towards n f p.0 p.1;
}
