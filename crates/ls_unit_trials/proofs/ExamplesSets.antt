-- Examples: sets of the first and the last item of each of the four words of which a set is made.
use Rattle.std.proofs.Common.{ℕ, ◌≡◌, refl, true, false, List, [], ◌∷◌, map, codes, replicate, Some, None, Ok, Err}
use Rattle.std.specs.List.{list_all}
use Rattle.ls_set.specs.{Items, bound, comes_before, cursor, cursor_set, differing, empty, full, has, is_good, is_same, is_within, items, keep_before, least, len, meet, minus, next_item, read_cursor, set_of, single, subsets, union, with, without}
use Rattle.ls_set.specs.declared.cursor.CursorFault.TheVariants.{Length, Digit, Spare}
use Rattle.ls_theory.specs.{pairs}

-- an example that opens this opens each word
unfoldable words : ℕ
unfolding has empty full with without union meet minus single differing is_within is_same bound items len least next_item comes_before keep_before cursor cursor_set read_cursor
words = 0

abbrev ends : List ℕ
ends = 0 ∷ 127 ∷ 128 ∷ 255 ∷ 256 ∷ 383 ∷ 384 ∷ 511 ∷ []

abbrev wide : Items
wide = set_of ends

abbrev spelled : List ℕ
spelled = codes "80000000000000000000000000000001800000000000000000000000000000018000000000000000000000000000000180000000000000000000000000000001"

-- ---- cursors

three_items : map (cursor 3) (subsets 3) ≡ codes "e" ∷ codes "c" ∷ codes "a" ∷ codes "8" ∷ codes "6" ∷ codes "4" ∷ codes "2" ∷ codes "0" ∷ []
unfolding words
three_items = refl

wide_spelled : cursor 512 wide ≡ spelled
unfolding words
wide_spelled = refl

wide_read : read_cursor 512 spelled ≡ Ok wide
unfolding words
wide_read = refl

full_spelled : cursor 512 (full 512) ≡ replicate 128 102
unfolding words
full_spelled = refl

one_item_less : read_cursor 511 spelled ≡ Err Spare
unfolding words
one_item_less = refl

other_lengths : read_cursor 512 (replicate 127 48) ≡ Err (Length 127)
unfolding words
other_lengths = refl

capital : read_cursor 8 (codes "eE") ≡ Err (Digit 2)
unfolding words
capital = refl

-- ---- items

listed : items wide ≡ ends
unfolding words
listed = refl

followed : map (next_item wide) ends ≡ Some 127 ∷ Some 128 ∷ Some 255 ∷ Some 256 ∷ Some 383 ∷ Some 384 ∷ Some 511 ∷ None ∷ []
unfolding words
followed = refl

least_above : map (λ i. least (minus wide (keep_before wide i))) ends ≡ map Some ends
unfolding words
least_above = refl

from_the_third : items (minus wide (keep_before wide 256)) ≡ 256 ∷ 383 ∷ 384 ∷ 511 ∷ []
unfolding words
from_the_third = refl

all_of_them : len (full 512) ≡ 512
unfolding words
all_of_them = refl

cut_off : map (λ i. is_same (keep_before (full 512) i) (full i)) ends ≡ replicate 8 true
unfolding words
cut_off = refl

-- ---- the order

ordered : list_all (λ p. comes_before p.0 p.1) (pairs (map single ends)) ≡ true
unfolding words
ordered = refl

-- the least item decides
decided : comes_before (set_of (0 ∷ 511 ∷ [])) (single 0) ≡ true
unfolding words
decided = refl

not_before : comes_before (set_of (1 ∷ 511 ∷ [])) (single 0) ≡ false
unfolding words
not_before = refl

-- ---- operations across words

abbrev left : Items
left = set_of (0 ∷ 70 ∷ 127 ∷ [])

abbrev right : Items
right = set_of (1 ∷ 70 ∷ [])

combined : map items (union left right ∷ meet left right ∷ minus left right ∷ without left 70 ∷ keep_before left 70 ∷ full 2 ∷ [])
    ≡ (0 ∷ 1 ∷ 70 ∷ 127 ∷ []) ∷ (70 ∷ []) ∷ (0 ∷ 127 ∷ []) ∷ (0 ∷ 127 ∷ []) ∷ (0 ∷ []) ∷ (0 ∷ 1 ∷ []) ∷ []
unfolding words
combined = refl

within : map (λ s. is_within s left) (meet left right ∷ right ∷ []) ≡ true ∷ false ∷ []
unfolding words
within = refl

-- A has an item that is none, and q is none
no_queries : map (λ r. is_good 3 r) (record { a = set_of (0 ∷ 3 ∷ []); q = 2 } ∷ record { a = single 0; q = 4294967295 } ∷ []) ≡ false ∷ false ∷ []
unfolding words
no_queries = refl
