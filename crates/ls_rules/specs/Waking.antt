-- Rules that are looked at again where an item of theirs fell out.
use Rattle.std.specs.Prelude.{ℕ, ◌≤◌, ◌≡◌, Bool, true, false, if◌then◌else◌, Option, None, Some}
use Rattle.std.specs.Prelude.{List, length, map, slice_get, fold}
use Rattle.std.specs.List.{AllByRecursion, list_all, filter_map}
use Rattle.ls_set.specs.{IsWithin, Items, empty, has, is_good, meet, minus, most_items, union}
use Rattle.ls_set.specs.{with, without}
use Rattle.ls_set.specs.declared.query.Query.{Query}
use Rattle.ls_theory.specs.{breaks, breaks_none}
use Rattle.ls_rules.specs.Followers.{AreFollowed}
use Rattle.ls_rules.specs.Parts.{first_of, several}
use Rattle.ls_rules.specs.Places.{PlaceList, places_at, IsIndexOf}
use Rattle.ls_rules.specs.Sets.{set_at}
use Rattle.ls_rules.specs.Singles.{AreSingles}
use Rattle.ls_rules.specs.declared.round.Round.{Round}

-- where the kept set breaks the rule, its item falls out
abbrev pub look : Round → Query → Round
look s r = record {
  kept = if breaks s.kept r then without s.kept r.q else s.kept;
  fallen = if breaks s.kept r then with s.fallen r.q else s.fallen;
}

-- the rules at the places
abbrev pub rules_at : List Query → List ℕ → List Query
rules_at rules places = filter_map (slice_get rules) places

-- the rules at the places are looked at, one after another
abbrev pub look_at : List Query → List ℕ → Round → Round
look_at rules places s = fold look s (rules_at rules places)

-- the items of the set that are kept fall out
abbrev pub lose_all : Round → Items → Round
lose_all s set = record { kept = minus s.kept set; fallen = union s.fallen (meet s.kept set) }

-- what an item that is not kept takes with it by the rules of the item alone
abbrev pub lost_with : List Items → Items → ℕ → Items
lost_with singles kept i = if has kept i then empty else set_at singles i

-- an item wakes its rules: by those of the item alone items fall out together,
-- then the others are looked at
abbrev pub wake : List Query → List Items → List PlaceList → ℕ → Round → Round
wake rules singles wakes i s =
    look_at rules (places_at wakes i) (lose_all s (lost_with singles s.kept i))

-- if the kept set breaks the rule, then an item of its A has fallen out and was not looked at since
abbrev pub IsAwake : Round → Query → Type 0
IsAwake s r = breaks s.kept r ≡ true → (i : ℕ) × (has r.a i ≡ true) × (has s.fallen i ≡ true)

-- the items that fell out wake every rule that is broken, and nothing of a set within the first
-- that breaks no rule was lost
pub record Settling (rules : List Query) (from : Items) (s : Round) : Type 0 where
  pub within : IsWithin s.kept from
  pub awake : AllByRecursion (IsAwake s) rules
  pub greatest : (t : Items) → breaks_none rules t ≡ true → IsWithin t from → IsWithin t s.kept

-- the rules can be asked about n items. The items of those with one item in A are kept
-- by that item; of the others there are kept the places of their sets A, and of the least items
-- of these, and for these their items
pub record IsIndexed (n : ℕ) (rules : List Query) (singles : List Items)
    (wakes starts : List PlaceList) (heads : List Items) : Type 0 where
  pub good : list_all (is_good n) rules ≡ true
  pub singles_are : AreSingles singles rules
  pub wakes_are : IsIndexOf wakes (map (λ r. several r.a) rules)
  pub starts_are : IsIndexOf starts (map (λ r. first_of (several r.a)) rules)
  pub headed : AreFollowed heads (λ r. first_of (several r.a)) rules
  pub few_wakes : length wakes ≤ n
  pub few_starts : length starts ≤ n
  pub singles_reach : length starts ≤ length singles
  pub heads_reach : length starts ≤ length heads
  pub few_heads : length heads ≤ most_items

-- the greatest set within the first that breaks no rule
pub record Settles (rules : List Query) (from settled : Items) : Type 0 where
  pub within : IsWithin settled from
  pub unbroken : breaks_none rules settled ≡ true
  pub greatest : (t : Items) → breaks_none rules t ≡ true → IsWithin t from → IsWithin t settled

-- s is the round after looks where no item of keep fell out; false where one did
abbrev pub IsKeeping : Items → Round → Round → Round → Bool → Type 0
IsKeeping keep from to s false = (i : ℕ) × (has keep i ≡ true) × (has to.kept i ≡ false)
IsKeeping keep from to s true = (s ≡ to) × (IsWithin keep from.kept → IsWithin keep s.kept)

-- no set within the first that has all of keep breaks no rule
abbrev pub NoneKeeps : List Query → Items → Items → Type 0
NoneKeeps rules from keep = (t : Items)
    → breaks_none rules t ≡ true
    → IsWithin t from
    → IsWithin keep t
    → ⊥

-- the greatest set within the first that breaks no rule, where it has all of keep
abbrev pub SettlesKeeping : List Query → Items → Items → Option Items → Type 0
SettlesKeeping rules from keep None = NoneKeeps rules from keep
SettlesKeeping rules from keep (Some k) = Settles rules from k × IsWithin keep k
