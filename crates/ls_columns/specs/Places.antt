-- Places of the rules of a list, counted from 0.
use Rattle.std.specs.Prelude.{ℕ, ◌<◌, ◌≡◌, Bool, false, not, true, List, Some, length, slice_get}
use Rattle.std.specs.Option.{option_map_or}
use Rattle.ls_set.specs.{Items, empty, has, is_same, meet, most_items}
use Rattle.ls_set.specs.declared.query.Query.{Query}
use Rattle.ls_rules.specs.Sets.{set_at}

-- the two sets have an item in common
abbrev pub meets : Items → Items → Bool
meets s t = not (is_same (meet s t) empty)

-- there is a rule at the place, and it passes the test
abbrev pub is_at : (Query → Bool) → List Query → ℕ → Bool
is_at p rules place = option_map_or p (slice_get rules place) false

-- the places of the rules that pass the test
abbrev pub ArePlaces : (Query → Bool) → List Query → Items → Type 0
ArePlaces p rules places = (k : ℕ) → has places k ≡ is_at p rules k

-- for each item its column: the places of the rules whose sets A have the item
pub record AreColumns (rules : List Query) (columns : List Items) : Type 0 where
  pub count : length columns ≡ most_items
  pub each : (i : ℕ) → i < most_items → ArePlaces (λ r. has r.a i) rules (set_at columns i)

-- the item, one that a set can have, is that of a rule at one of the places whose set A has no
-- item that is kept
pub record IsAsked (rules : List Query) (places kept : Items) (item : ℕ) : Type 0 where
  pub place : ℕ
  pub rule : Query
  pub among : has places place ≡ true
  pub found : slice_get rules place ≡ Some rule
  pub clear : is_same (meet kept rule.a) empty ≡ true
  pub asked : rule.q ≡ item
  pub small : item < most_items
