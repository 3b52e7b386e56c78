-- The test whether a list is closed under union, by any sets that span it.
use Rattle.std.specs.Prelude.{ℕ, ◌≡◌, Bool, true, false, not, ◌&&◌, List, find}
use Rattle.std.specs.Prelude.{Option, option_map, unwrap_or}
use Rattle.std.specs.List.{list_any, list_all}
use Rattle.ls_set.specs.{IsWithin, Items, empty, has, is_among, is_within, union}
use Rattle.ls_laws.specs.Spans.{touches}

-- the union of the two is missing
abbrev pub is_missing : List Items → Items → Items → Bool
is_missing f k l = not (is_among f (union k l))

-- the union of each member with each set of g is a member
abbrev pub is_closed_with : List Items → List Items → Bool
is_closed_with g f = list_all (λ k. list_all (λ b. is_among f (union k b)) g) f

-- the first member whose union with k is missing
abbrev pub first_partner : List Items → Items → Items
first_partner f k = unwrap_or (find (is_missing f k) f) empty

-- the first member whose union with a set of g is missing, and the first member
-- whose union with that one is
abbrev pub unclosed_pair_by : List Items → List Items → Option (Items × Items)
unclosed_pair_by g f =
    option_map (λ k. (k, first_partner f k)) (find (λ k. list_any (is_missing f k) g) f)

-- ---- by fewer unions

-- m has the item i, and each set of g that has the item has all of m
pub record ComesWith (g : List Items) (i : ℕ) (m : Items) : Type 0 where
  pub itself : has m i ≡ true
  pub together : (b : Items) → is_among g b ≡ true → has b i ≡ true → IsWithin m b

-- each item of s is outside k, and gives with it a member, along with items that
-- come with it in each set of g
abbrev pub IsGrown : List Items → List Items → Items → Items → Type 0
IsGrown f g k s =
    (i : ℕ) → has s i ≡ true
    → (has k i ≡ false) × ((m : Items) × ComesWith g i m × (is_among f (union k m) ≡ true))

-- the set has an item outside k, and none of s, and its union with k is missing
abbrev pub is_apart : List Items → Items → Items → Items → Bool
is_apart f s k b = not (touches b s) && (not (is_within b k) && is_missing f k b)

-- the union of k is missing with such a set of g
abbrev pub lacks_apart : List Items → List Items → Items → Items → Bool
lacks_apart f g s k = list_any (is_apart f s k) g
