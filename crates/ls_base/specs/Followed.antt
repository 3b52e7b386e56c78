-- The base of the compatible sets, followed over the Yes answers.
use Rattle.std.specs.Prelude.{ℕ, ◌≡◌, Bool, true, not, List, [], Some, None, ⊤}
use Rattle.ls_set.specs.{Items, is_good}
use Rattle.ls_set.specs.declared.query.Query.{Query}
use Rattle.ls_theory.specs.{Start, base, compat, most_base_sets, peak, some_breaks}
use Rattle.ls_base.specs.Bases.{BaseState}
use Rattle.ls_base.specs.declared.followed.Followed.{Followed}
use Rattle.ls_base.specs.declared.followed.Followed.TheVariants.{Within, Past}

-- the base is that of the compatible sets, and none before it had too many sets
pub record IsFollowedBase (n : ℕ) (start : Start) (yeses : List Query)
    (b : BaseState) : Type 0 where
  pub items : b.item_count ≡ n
  pub is_base : b.sets ≡ base (compat n start yeses)
  pub no_peak : peak most_base_sets n start yeses ≡ None

-- what is followed over the Yes answers: the base of the compatible sets, or the peak
abbrev pub IsFollowed : ℕ → Start → List Query → Followed → Type 0
IsFollowed n start yeses (Within b) = IsFollowedBase n start yeses b
IsFollowed n start yeses (Past position count) =
    peak most_base_sets n start yeses ≡ Some (record { position = position; count = count })

-- the query can be asked of what is followed
abbrev pub IsAskable : Followed → Query → Type 0
IsAskable (Within b) r = is_good b.item_count r ≡ true
IsAskable (Past position count) r = ⊤

-- the sets of the base; none where it is past
abbrev pub followed_sets : Followed → List Items
followed_sets (Within b) = b.sets
followed_sets (Past position count) = []

-- whether one more Yes changes nothing: what is past stays, and so does a base none
-- of whose sets breaks the query
abbrev pub is_unchanged : Followed → Query → Bool
is_unchanged (Within b) r = not (some_breaks b.sets r)
is_unchanged (Past position count) r = true
