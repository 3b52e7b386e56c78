use Rattle.ls_laws.proofs.WellGraded.{learning-parts}
use Rattle.ls_laws.proofs.ReadBack.{outer_fringe-same, greatest_without, state_of-own, state_of-is}
use Rattle.ls_laws.proofs.fringes.fringes_tell.Goals as goal

pub returns : goal.returns
returns c = record {
  same = λ n f small h k l ck cl _ e. let p = learning-parts n f small h in outer_fringe-same n f p.0 p.1 k l ck cl e;
  greatest = λ n f small h. let p = learning-parts n f small h in greatest_without n f p.0 p.1;
  reads_back = λ n f small h. let p = learning-parts n f small h in state_of-own n f p.0 p.1;
  reads = λ n f small h. let p = learning-parts n f small h in state_of-is n f p.0 p.1;
}
