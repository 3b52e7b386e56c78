-- All sets of some items can be weighed, where they are not too many.
use Rattle.std.proofs.Common.{ℕ, ◌<◌, ◌≤◌, ◌≡◌, length}
use Rattle.ls_set.specs.{most_items, subsets}
use Rattle.ls_theory.specs.Settings.{Settings, most_states}
use Rattle.ls_laws.proofs.Families.{subsets-IsFamily}
use Rattle.ls_weight.specs.Weighings.{IsWeighable}
use Rattle.ls_weight.proofs.Weighable.{family-weighable}

pub all_weighable : (n : ℕ) (s : Settings) → 0 < n → n ≤ most_items → length s.ratios ≡ n → length (subsets n) ≤ most_states → IsWeighable n (subsets n) s
all_weighable n s some few each few_states = family-weighable n (subsets n) s (subsets-IsFamily n) some few each few_states
