-- What is followed over the first Yes answers, for some numbers of them.
use Rattle.std.specs.Prelude.{ℕ, ◌-◌, ◌≡◌, ◌≤◌, Bool, true, false, ◌==◌, nat_lt, nat_le}
use Rattle.std.specs.Prelude.{if◌then◌else◌, List, [], ◌∷◌, map, filter, length, take, slice_get}
use Rattle.std.specs.Prelude.{Option, Some, option_map, IfSome}
use Rattle.std.specs.List.{All}
use Rattle.std.specs.Option.{option_map_or}
use Rattle.ls_set.specs.{Items}
use Rattle.ls_set.specs.declared.query.Query.{Query}
use Rattle.ls_theory.specs.{Start}
use Rattle.ls_base.specs.Bases.{BaseState}
use Rattle.ls_base.specs.Followed.{IsFollowed, IsAskable, followed_sets}
use Rattle.ls_base.specs.declared.followed.Followed.{Followed}
use Rattle.ls_base.specs.declared.followed.Followed.TheVariants.{Within}
use Rattle.ls_base.specs.declared.trail.Entry.{Entry}

-- the entry stands for each number of first Yes answers from its first to its last
pub record IsEntry (n : ℕ) (start : Start) (yeses : List Query) (e : Entry) : Type 0 where
  pub in_order : e.first ≤ e.last
  pub few : e.last ≤ length yeses
  pub followed : (k : ℕ) → e.first ≤ k → k ≤ e.last → IsFollowed n start (take k yeses) e.followed

-- each entry is what is followed over the first Yes answers for which it stands
abbrev pub IsTrail : ℕ → Start → List Query → List Entry → Type 0
IsTrail n start yeses trail = All (IsEntry n start yeses) trail

-- the last entry, if there is one
abbrev pub last_entry : List Entry → Option Entry
last_entry trail = slice_get trail (length trail - 1)

abbrev pub last_followed : List Entry → Option Followed
last_followed trail = option_map (λ e. e.followed) (last_entry trail)

-- the greatest number of Yes answers for which the last entry stands
abbrev pub followed_count : List Entry → ℕ
followed_count trail = option_map_or (λ e. e.last) (last_entry trail) 0

-- the last entry is what is followed over all of the Yes answers
pub record EndsAt (n : ℕ) (start : Start) (yeses : List Query) (trail : List Entry) : Type 0 where
  pub end : Followed
  pub is_last : last_followed trail ≡ Some end
  pub is_followed : IsFollowed n start yeses end

-- each of the queries can be asked of the last entry
abbrev pub AreAskable : List Query → List Entry → Type 0
AreAskable yeses trail = IfSome (last_entry trail) (λ e. All (IsAskable e.followed) yeses)

-- whether the trail begins, and if so with an entry that stands for no answer
abbrev pub is_begun : List Entry → Bool
is_begun [] = false
is_begun (e ∷ es) = true

abbrev pub begins_at_none : List Entry → Bool
begins_at_none [] = true
begins_at_none (e ∷ es) = e.first == 0

-- the base alone, which stands for no answer
abbrev pub begun_trail : BaseState → List Entry
begun_trail first = record { first = 0; last = 0; followed = Within first } ∷ []

-- the entry, which stands for no more than `count` answers
abbrev pub cut : ℕ → Entry → Entry
cut count e = if nat_lt count e.last then record e { last = count } else e

-- what stands for the first `count` answers, or for fewer
abbrev pub given_up : ℕ → List Entry → List Entry
given_up count trail = map (cut count) (filter (λ e. nat_le e.first count) trail)

-- the sets of the base of the last entry; none where it is past, or there is none
abbrev pub trail_sets : List Entry → List Items
trail_sets trail = option_map_or followed_sets (last_followed trail) []
