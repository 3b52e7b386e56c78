-- The weights of listed states after replies, as contracts see them.
use Rattle.std.specs.Prelude.{ℕ, ◌*◌, ◌≡◌, ◌<◌, ◌≤◌, true, List, map, length, nat_lt}
use Rattle.std.specs.Prelude.{slice_index, None}
use Rattle.std.specs.List.{list_all, IsFirstMaxByKey}
use Rattle.ls_set.specs.{IsInOrder, Items, full, is_within, most_items}
use Rattle.ls_theory.specs.declared.reply.Reply.{Reply}
use Rattle.ls_theory.specs.Settings.{Settings, most_states, heavy_after}
use Rattle.ls_theory.specs.{mass, total, weight}
use Rattle.ls_weight.specs.Sums.{table_cells}
use Rattle.ls_weight.specs.Rows.{width_of}
use Rattle.ls_weight.specs.Allowed.{IsAllowed}

-- the settings, the states, and the replies that were given
pub record Weighing : Type 0 where
  pub settings : Settings
  pub states : List Items
  pub replies : List Reply

-- what can be weighed: some items, but not too many, with the ratios of each;
-- and some states of them, but not too many, in the order
pub record IsWeighable (n : ℕ) (states : List Items) (s : Settings) : Type 0 where
  pub some_items : 0 < n
  pub few_items : n ≤ most_items
  pub each_item : length s.ratios ≡ n
  pub some_states : 0 < length states
  pub few_states : length states ≤ most_states
  pub in_order : IsInOrder states
  pub within : list_all (λ k. is_within k (full n)) states ≡ true

-- what is kept: the weights, the mass of each item, the total, the place of the first greatest
-- weight, the cells of the tables, and for how many replies there is room
pub record KeptSums : Type 0 where
  pub weights : List ℕ
  pub masses : List ℕ
  pub total : ℕ
  pub heaviest : ℕ
  pub cells : ℕ
  pub room : ℕ

-- the weights and sums are those of the states, of `count` items, which can be weighed
-- and are not too heavy; the replies are on items, and there are no more than the budget,
-- for which there is room
pub record AreKeptSums (count : ℕ) (w : Weighing) (kept : KeptSums) : Type 0 where
  pub items : count ≡ length w.settings.ratios
  pub weighable : IsWeighable (length w.settings.ratios) w.states w.settings
  pub allowed : IsAllowed w.settings
  pub light : heavy_after w.settings (length w.states) ≡ None
  pub budget : length w.replies ≤ w.settings.budget
  pub on_items : list_all (λ r. nat_lt r.q (length w.settings.ratios)) w.replies ≡ true
  pub room : w.settings.budget ≤ kept.room
  pub weights : kept.weights ≡ map (weight w.settings.ratios w.replies) w.states
  pub each_mass : length kept.masses ≡ length w.settings.ratios
  pub masses : (q : ℕ)
      → q < length w.settings.ratios
      → slice_index kept.masses q ≡ mass w.settings.ratios w.replies w.states q
  pub total : kept.total ≡ total w.settings.ratios w.replies w.states
  pub heaviest : IsFirstMaxByKey (λ v. v) kept.weights (length kept.weights) kept.heaviest
  pub cells : kept.cells ≡ table_cells * width_of (length w.settings.ratios)
