-- What the examples share: sets of the items a b c, and the words that they open.
use Rattle.std.specs.Prelude.{ℕ}
use Rattle.ls_clauses.proofs.Vocabulary.{Items, base, bound, comes_before, compat, differing, empty, full, has, interior, is_same, is_within, items, least, len, meet, minus, needed, single, spanned, union, with, without}

-- an example that opens this opens each word
unfoldable pub words : ℕ
unfolding has empty full with without union meet minus single differing is_within is_same bound items len least comes_before interior compat base needed spanned
words = 0

abbrev pub set : ℕ → Items
set digits = record { digits = digits }

abbrev pub ∅ : Items
∅ = set 0

abbrev pub a : Items
a = set 1

abbrev pub b : Items
b = set 2

abbrev pub ab : Items
ab = set 3

abbrev pub c : Items
c = set 4

abbrev pub ac : Items
ac = set 5

abbrev pub bc : Items
bc = set 6

abbrev pub abc : Items
abc = set 7
