use Rattle.ls_laws.proofs.Interiors.{closed-from, interior-is, interior-within, interior-greatest, is_within-interior}
use Rattle.ls_laws.proofs.spaces.interiors_are_greatest.Goals as goal

pub returns : goal.returns
returns c = record {
  member = λ f s e closed. (interior-is f e (closed-from f closed) s).member;
  within = interior-within;
  greatest = interior-greatest;
  test = λ f s e closed. is_within-interior f e (closed-from f closed) s;
}
