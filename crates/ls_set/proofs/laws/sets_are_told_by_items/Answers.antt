use Rattle.ls_set.proofs.Sets.{has-empty, has-full, has-with, has-without, has-union, has-meet, has-minus, has-keep_before, same_set, Decides-is_same, Decides-is_within}
use Rattle.ls_set.proofs.laws.sets_are_told_by_items.Goals as goal

pub returns : goal.returns
returns c = record {
  one = same_set;
  same = Decides-is_same;
  within = Decides-is_within;
  of_empty = has-empty;
  of_full = has-full;
  of_with = has-with;
  of_without = has-without;
  of_union = has-union;
  of_meet = has-meet;
  of_minus = has-minus;
  of_keep_before = has-keep_before;
}
