-- What is true of the settings of every assessment.
use Rattle.std.specs.Prelude.{◌≡◌, ◌≤◌, true, length}
use Rattle.std.specs.List.{list_all}
use Rattle.ls_set.specs.{most_items}
use Rattle.ls_theory.specs.Settings.{Settings, are_ratios, are_limits}

-- there are not too many items, and each ratio and both limits can be set
pub record IsAllowed (s : Settings) : Type 0 where
  pub few : length s.ratios ≤ most_items
  pub ratios : list_all are_ratios s.ratios ≡ true
  pub limits : are_limits s.budget s.share ≡ true
