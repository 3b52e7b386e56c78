-- Families whose members can be weighed.
use Rattle.ls_weight.proofs.Vocabulary.{◌<◌, ◌∷◌, ◌≡◌, ◌≤◌, IsWeighable, Items, List, ℕ, [], arith, empty, full, is_among, is_within, length, most_items, sym, true, true≢false}
use Rattle.ls_set.proofs.Sets.{is_within-from}
use Rattle.ls_theory.specs.Settings.{Settings, most_states}
use Rattle.ls_laws.specs.Families.{IsFamily}
use Rattle.ls_laws.proofs.Lists.{every-from}

some-states : (f : List Items) (k : Items) → is_among f k ≡ true → 0 < length f
some-states [] k h = absurd (true≢false (sym h))
some-states (l ∷ f) k h = omega arith

-- the members of a family of some items, but not too many, where there are not too many
pub family-weighable : (n : ℕ) (f : List Items) (s : Settings) → IsFamily n f → 0 < n → n ≤ most_items → length s.ratios ≡ n → length f ≤ most_states → IsWeighable n f s
family-weighable n f s h some few each few_states = record {
  some_items = some;
  few_items = few;
  each_item = each;
  some_states = some-states f empty h.holds_empty;
  few_states = few_states;
  in_order = h.in_order;
  within = every-from (λ k. is_within k (full n)) f (λ k a. is_within-from k (full n) (h.small k a));
}
