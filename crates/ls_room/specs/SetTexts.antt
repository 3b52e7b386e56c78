-- The names of a set's items, joined beforehand for each eight items: the groups. Group g has the
-- items 8 * g up to 8 * g + 7.
use Rattle.std.specs.Prelude.{ℕ, ◌+◌, ◌-◌, ◌*◌, ◌/◌, ◌%◌, Bool, ◌==◌, min}
use Rattle.std.specs.Prelude.{List, [], ◌∷◌, map, filter, length, Option, Some, None}
use Rattle.std.specs.Int.{bit_at}
use Rattle.std.specs.List.{flat_map}
use Rattle.ls_set.specs.{numbers_from}
use Rattle.ls_cutting.specs.{Text}
use Rattle.ls_domain.specs.Texts.{name_of}

-- the names of the items, none where no domain stands
abbrev pub names_in : Option (List Text) → List Text
names_in None = []
names_in (Some names) = names

-- how many groups n items have
abbrev pub group_count : ℕ → ℕ
group_count n = (n + 7) / 8

-- the items of group g, of n items
abbrev pub group_items : ℕ → ℕ → List ℕ
group_items n g = numbers_from (8 * g) (min 8 (n - 8 * g))

-- the names of those items that pass a test, each behind a space
abbrev pub spaced_names : List Text → (ℕ → Bool) → List ℕ → Text
spaced_names names p is = flat_map (λ i. 32 ∷ name_of names i) (filter p is)

-- the text of a pattern of group g: item 8 * g + j is in it where digit j is 1
abbrev pub group_text : List Text → ℕ → ℕ → Text
group_text names g pattern =
    spaced_names names (λ i. bit_at pattern (i % 8) == 1) (group_items (length names) g)

-- the texts of all patterns of all groups
unfoldable pub group_texts : List Text → List Text
group_texts names =
    map (λ k. group_text names (k / 256) (k % 256))
    (numbers_from 0 (256 * group_count (length names)))
