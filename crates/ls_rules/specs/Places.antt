-- For each item, the places of the sets of a list that have it.
use Rattle.std.specs.Prelude.{ℕ, suc, ◌-◌, ◌≡◌, ◌==◌, nat_lt, false, not, if◌then◌else◌, min}
use Rattle.std.specs.Prelude.{List, [], ◌∷◌, map, filter, length, slice_index_or}
use Rattle.ls_set.specs.{Items, has}

-- places, and how many more fit without memory
pub record PlaceList : Type 0 where
  pub places : List ℕ
  pub spare : ℕ

abbrev pub no_places : PlaceList
no_places = record { places = []; spare = 0 }

-- what is listed of an item; nothing past the end of the list
abbrev pub places_at : List PlaceList → ℕ → List ℕ
places_at ls i = (slice_index_or ls i no_places).places

abbrev pub spare_at : List PlaceList → ℕ → ℕ
spare_at ls i = (slice_index_or ls i no_places).spare

-- where a place stands after another was taken out
abbrev pub lower : ℕ → ℕ → ℕ
lower place p = if nat_lt place p then p - 1 else p

-- the places without one of them; those above it are one lower
abbrev pub lowered : ℕ → List ℕ → List ℕ
lowered place ps = map (lower place) (filter (λ p. not (p == place)) ps)

-- the places of the sets that have the item, where the first set has place p
abbrev pub places_from : ℕ → List Items → ℕ → List ℕ
places_from p [] i = []
places_from p (k ∷ ks) i =
    if has k i then p ∷ places_from (suc p) ks i else places_from (suc p) ks i

-- each item has the places of those of the sets that have it
abbrev pub IsIndexOf : List PlaceList → List Items → Type 0
IsIndexOf ls ks = (i : ℕ) → places_at ls i ≡ places_from 0 ks i

-- the set has each item that has a place; it may have more
abbrev pub Covers : Items → List PlaceList → Type 0
Covers items ls = (i : ℕ) → has items i ≡ false → places_at ls i ≡ []

-- at most m, and at most the least room that some list has
abbrev pub least_spare : List PlaceList → ℕ → ℕ
least_spare [] m = m
least_spare (l ∷ ls) m = min l.spare (least_spare ls m)

-- how many more places fit everywhere, and at most m; none where some of the n items
-- has no list yet
abbrev pub spare_within : ℕ → List PlaceList → ℕ → ℕ
spare_within n ls m = if nat_lt (length ls) n then 0 else least_spare ls m
