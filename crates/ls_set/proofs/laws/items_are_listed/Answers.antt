use Rattle.ls_set.proofs.Vocabulary.{len, refl}
use Rattle.ls_set.proofs.Listed.{items-ascend, Contains-items, least-is, next_item-is}
use Rattle.ls_set.proofs.laws.items_are_listed.Goals as goal

pub returns : goal.returns
unfolding len
returns c = record {
  ascending = items-ascend;
  each = Contains-items;
  count = λ s. refl;
  first = least-is;
  next = next_item-is;
}
