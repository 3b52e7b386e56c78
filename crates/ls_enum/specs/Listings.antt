-- Listings of a family: what comes after a set, and pages joined one after another.
--     first_after word f      the first member that comes after word, which may be any set
--     filled_above n word i      where an interior is formed in search of it
--     NoneFrom f word i      no member first differs from word at an item from i on, which word has
--     count_before word i      how many items below i it has
--     left_after cursor f      the members after the cursor, or all of them where there is none
--     joined_pages f cursor sizes      pages of these sizes,
--         each after the last set of those before it
use Rattle.std.specs.Prelude.{ℕ, zero, suc, ◌+◌, ◌≤◌, ◌≡◌, true, if◌then◌else◌}
use Rattle.std.specs.Prelude.{List, [], ◌∷◌, ◌++◌, filter, find, Option}
use Rattle.std.specs.List.{last_or}
use Rattle.ls_set.specs.{DiffersFirstAt, Items, comes_before, full, has, is_among, keep_before}
use Rattle.ls_set.specs.{minus, union}
use Rattle.ls_theory.specs.{comes_after, page}

abbrev pub first_after : Items → List Items → Option Items
first_after word f = find (comes_before word) f

-- the items of the word before i, and all items after i
abbrev pub filled_above : ℕ → Items → ℕ → Items
filled_above n word i = union (keep_before word i) (minus (full n) (full (i + 1)))

abbrev pub NoneFrom : List Items → Items → ℕ → Type 0
NoneFrom f word i = (t : Items)
    → is_among f t ≡ true
    → (d : ℕ)
    → i ≤ d
    → DiffersFirstAt word t d
    → ⊥

abbrev pub count_before : Items → ℕ → ℕ
count_before word zero = zero
count_before word (suc i) = count_before word i + (if has word i then 1 else 0)

abbrev pub left_after : Option Items → List Items → List Items
left_after cursor f = filter (comes_after comes_before cursor) f

abbrev pub joined_pages : List Items → Option Items → List ℕ → List Items
joined_pages f cursor [] = []
joined_pages f cursor (k ∷ sizes) =
    let sets = (page comes_before f cursor k).members in
    sets ++ joined_pages f (last_or cursor sets) sizes
