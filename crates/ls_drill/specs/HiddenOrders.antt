-- Hidden orders: a number makes one on n items.
--     implied n number a q      whether a is before q in the order on n items that the number makes
use Rattle.std.specs.Prelude.{ℕ, zero, suc, ◌%◌, Bool, false, ◌&&◌, ◌||◌, ◌==◌}
use Rattle.std.specs.Prelude.{List, [], ◌∷◌, map, filter, length}
use Rattle.std.specs.List.{list_any, zip}
use Rattle.rand_pcg.specs.Lcg.{Lcg, started, increment_of}
use Rattle.rand_pcg.specs.Pcg.{pcg32, multiplier_64}
use Rattle.ls_set.specs.{numbers_from}
use Rattle.ls_theory.specs.{pairs}

-- the most items of a hidden order
abbrev pub most_drilled : ℕ
most_drilled = 48

-- the generator that begins with the number, on its stream 54
abbrev pub generator_of : ℕ → Lcg
generator_of number = started 64 multiplier_64 number (increment_of 64 54)

-- the next words of a generator, one after another
abbrev pub drawn_words : ℕ → Lcg → List ℕ
drawn_words zero g = []
drawn_words (suc count) g = (pcg32 g).0 ∷ drawn_words count (pcg32 g).1

-- the pairs of items, the first below the second: by the first, then by the second
abbrev pub item_pairs : ℕ → List (ℕ × ℕ)
item_pairs n = pairs (numbers_from 0 n)

-- the related pairs: a word is drawn for each pair, and 4 divides it
unfoldable pub related : ℕ → ℕ → List (ℕ × ℕ)
related n number =
    let all = item_pairs n in
    let words = drawn_words (length all) (generator_of number) in
    map (λ d. d.0) (filter (λ d. d.1 % 4 == 0) (zip all words))

-- whether some chain of at most m of the pairs leads from a to q,
-- each from where the one before it ends
unfoldable pub is_chained : List (ℕ × ℕ) → ℕ → ℕ → ℕ → Bool
is_chained related zero a q = false
is_chained related (suc m) a q =
    list_any (λ p. p.0 == a && (p.1 == q || is_chained related m p.1 q)) related

-- a is before q: a chain of related pairs leads from a to q
abbrev pub implied : ℕ → ℕ → ℕ → ℕ → Bool
implied n number a q = is_chained (related n number) n a q

-- the order on a number of items that a number makes
pub record HiddenOrder : Type 0 where
  pub item_count : ℕ
  pub number : ℕ
