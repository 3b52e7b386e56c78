-- How the related pairs are drawn, and how chains of them are followed from the last pair on.
use Rattle.std.specs.Prelude.{ℕ, ◌≡◌, ◌<◌, ◌≤◌, ◌+◌, ◌-◌, ◌%◌, Bool, false, ◌&&◌, ◌||◌, ◌==◌}
use Rattle.std.specs.Prelude.{if◌then◌else◌, List, [], ◌∷◌, map, length, slice_index_or}
use Rattle.rand_pcg.specs.Lcg.{Lcg}
use Rattle.rand_pcg.specs.Pcg.{pcg32}
use Rattle.ls_set.specs.{Items, empty, has, numbers_from}
use Rattle.ls_drill.specs.HiddenOrders.{implied, most_drilled}

-- those of the pairs whose word 4 divides, one word being drawn for each
unfoldable pub drawn : Lcg → List (ℕ × ℕ) → List (ℕ × ℕ)
drawn g [] = []
drawn g (p ∷ ps) = if (pcg32 g).0 % 4 == 0 then p ∷ drawn (pcg32 g).1 ps else drawn (pcg32 g).1 ps

-- the generator after a word for each of the pairs
unfoldable pub after_words : List (ℕ × ℕ) → Lcg → Lcg
after_words [] g = g
after_words (p ∷ ps) g = after_words ps (pcg32 g).1

-- the pairs of i and a greater item below n
abbrev pub row : ℕ → ℕ → List (ℕ × ℕ)
row n i = map (λ j. (i, j)) (numbers_from (i + 1) (n - (i + 1)))

-- a pair of items below n, the first below the second
pub record IsPair (n : ℕ) (p : ℕ × ℕ) : Type 0 where
  pub rises : p.0 < p.1
  pub small : p.1 < n

-- whether some chain of the pairs leads from a to q, where each is followed by later ones alone
unfoldable pub has_chain : List (ℕ × ℕ) → ℕ → ℕ → Bool
has_chain [] a q = false
has_chain (p ∷ ps) a q = (p.0 == a && (p.1 == q || has_chain ps p.1 q)) || has_chain ps a q

-- for each item, those that it is before
pub record KeepsHiddenOrder (n number : ℕ) (after : List Items) : Type 0 where
  pub few : n ≤ most_drilled
  pub items : length after ≡ n
  pub implies : (a q : ℕ) → a < n → has (slice_index_or after a empty) q ≡ implied n number a q
