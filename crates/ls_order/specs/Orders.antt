-- What laws say of relations: preorders and partial orders, as rows of the items below each item.
use Rattle.std.specs.Prelude.{ℕ, ◌<◌, ◌≡◌, Bool, true, not, ◌&&◌, ◌||◌, ◌==◌, List, length}
use Rattle.std.specs.List.{list_any, list_all}
use Rattle.ls_set.specs.ItemSet.{Items, has, full, meet, is_among, numbers_from, IsWithin}
use Rattle.ls_theory.specs.Bases.{atoms_at}
use Rattle.ls_origins.specs.Relations.{below_of, strictly_below}

-- each item is below itself, and what is below an item below q is below q
pub record IsPreorder (n : ℕ) (below : List Items) : Type 0 where
  pub each_item : length below ≡ n
  pub small : (q : ℕ) → IsWithin (below_of below q) (full n)
  pub reflexive : (q : ℕ) → q < n → has (below_of below q) q ≡ true
  pub transitive : (q r : ℕ) → has (below_of below q) r ≡ true
      → IsWithin (below_of below r) (below_of below q)

-- no two items are below each other
abbrev pub IsAntisymmetric : List Items → Type 0
IsAntisymmetric below =
    (q r : ℕ) → has (below_of below q) r ≡ true → has (below_of below r) q ≡ true → q ≡ r

-- a partial order
pub record IsOrder (n : ℕ) (below : List Items) : Type 0 where
  pub preorder : IsPreorder n below
  pub antisymmetric : IsAntisymmetric below

-- there is one atom at the item
abbrev pub has_one_atom : List Items → ℕ → Bool
has_one_atom f q = length (atoms_at f q) == 1

-- with any two members their meet is one
abbrev pub is_meet_closed : List Items → Bool
is_meet_closed f = list_all (λ k. list_all (λ l. is_among f (meet k l)) f) f

-- ---- pairs of a lower and a higher item

abbrev pub has_pair : List (ℕ × ℕ) → ℕ → ℕ → Bool
has_pair pairs low high = list_any (λ p. p.0 == low && p.1 == high) pairs

-- both items of each pair are below n
abbrev pub ArePairs : ℕ → List (ℕ × ℕ) → Type 0
ArePairs n pairs = (low high : ℕ) → has_pair pairs low high ≡ true → (low < n) × (high < n)

-- no item is strictly below itself
abbrev pub has_no_cycle : ℕ → List (ℕ × ℕ) → Bool
has_no_cycle n pairs = list_all (λ q. not (has (strictly_below n pairs q) q)) (numbers_from 0 n)

-- the set has the lower item of each pair whose higher item it has
abbrev pub keeps_pairs : List (ℕ × ℕ) → Items → Bool
keeps_pairs pairs k = list_all (λ p. not (has k p.1) || has k p.0) pairs

-- a set with each of the n items that has r below it
abbrev pub AreAbove : ℕ → List Items → ℕ → Items → Type 0
AreAbove n below r above = (x : ℕ) → x < n → has above x ≡ has (below_of below x) r
