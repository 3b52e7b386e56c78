use Rattle.ls_set.proofs.Order.{comes_before-at, differs_first, comes_before-irreflexive, comes_before-transitive, either_first}
use Rattle.ls_set.proofs.laws.sets_are_ordered.Goals as goal

pub returns : goal.returns
returns c = record {
  first = λ s t. (differs_first s t, λ d. comes_before-at s t d.0 d.1);
  strict = comes_before-irreflexive;
  transitive = comes_before-transitive;
  any_two = either_first;
}
