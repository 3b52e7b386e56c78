use Rattle.ls_laws.proofs.Interiors.{closed-from}
use Rattle.ls_laws.proofs.AtomsAfter.{stays-among, gained-among, base-cases, near_least-below, base-same}
use Rattle.ls_laws.proofs.after_yes.base_after_yes.Goals as goal

pub returns : goal.returns
returns c = record {
  stays = stays-among;
  gains = λ f r gs i h. gained-among f r gs i (closed-from f h);
  only = λ f r gs h. base-cases f r gs (closed-from f h);
  near_least = near_least-below;
  same = base-same;
}
