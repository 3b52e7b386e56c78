-- What the examples share: sets of the items a b c, queries on them, and the interview in which all who fail a fail b.
use Rattle.std.specs.Prelude.{ℕ, true, List, [], ◌∷◌}
use Rattle.ls_theory.proofs.Vocabulary.{Free, Interview, Items, accepted, asked, base, begun, block_before, blocks, bound, class_results, comes_before, compat, differing, empty, families, fitting_spaces, full, half_split, has, imbalance, inner_fringe, interior, is_joined, is_same, is_settled, is_well_graded, is_within, items, known, leader, least, len, meet, minus, next_question, orders_of, outer_fringe, paths, peak, queries, query_before, replies_in, single, state_of, union, verdict, weight, with, without}
use Rattle.ls_set.specs.declared.query.Query.{Query}

-- an example that opens this opens each word
unfoldable pub words : ℕ
unfolding has empty full with without union meet minus single differing is_within is_same bound items len least comes_before block_before query_before blocks queries families interior compat fitting_spaces known next_question is_settled base peak is_joined is_well_graded verdict inner_fringe outer_fringe state_of orders_of paths weight imbalance half_split leader asked replies_in class_results
words = 0

abbrev pub set : ℕ → Items
set digits = record { digits = digits }

abbrev pub ∅ : Items
∅ = set 0

abbrev pub a : Items
a = set 1

abbrev pub b : Items
b = set 2

abbrev pub ab : Items
ab = set 3

abbrev pub c : Items
c = set 4

abbrev pub ac : Items
ac = set 5

abbrev pub bc : Items
bc = set 6

abbrev pub abc : Items
abc = set 7

-- the query (A, q)
infix 90 ◌∶◌
abbrev pub ◌∶◌ : Items → ℕ → Query
s ∶ q = record { a = s; q = q }

-- the interview on a b c in which all who fail a fail b
abbrev pub six : Interview
six = accepted (begun 3 Free) (a ∶ 1) true

-- its states
abbrev pub six_states : List Items
six_states = abc ∷ ab ∷ ac ∷ a ∷ c ∷ ∅ ∷ []
