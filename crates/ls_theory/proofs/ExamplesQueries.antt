-- Examples: queries that sets break, blocks, interiors, starts and compatible sets on the items a b c.
use Rattle.ls_theory.proofs.Vocabulary.{◌∷◌, ◌≡◌, Free, Sets, [], accepted, begun, blocks, breaks, closure, compat, compatible_sets, false, interior, length, pairs, queries, query_before, refl, retracted, subsets, true, yes_queries}
use Rattle.std.specs.List.{list_all}
use Rattle.ls_theory.proofs.Small.{words, ∅, a, b, ab, c, ac, bc, abc, ◌∶◌, six, six_states}

-- only a set with b and without a breaks it
broken : breaks bc (a ∶ 1) ≡ true
unfolding words
broken = refl

not_broken : breaks ab (a ∶ 1) ≡ false
unfolding words
not_broken = refl

lacks_both : breaks c (a ∶ 1) ≡ false
unfolding words
lacks_both = refl

-- all queries on three items, in their order
ordered : queries 3 2 ≡ a ∶ 1 ∷ a ∶ 2 ∷ b ∶ 0 ∷ b ∶ 2 ∷ c ∶ 0 ∷ c ∶ 1 ∷ ab ∶ 2 ∷ ac ∶ 1 ∷ bc ∶ 0 ∷ []
unfolding words
ordered = refl

-- the list is in the order, and has each query once
ascending : list_all (λ p. query_before p.0 p.1) (pairs (queries 4 3)) ≡ true
unfolding words
ascending = refl

block_count : length (blocks 3 2) ≡ 6
unfolding words
block_count = refl

numbered : six ≡ record { count = 3; start = Free; block = 1; answers = record { number = 1; query = a ∶ 1; yes = true } ∷ []; next = 2 }
numbered = refl

-- a No restricts no set
no_counts_not : yes_queries (accepted six (a ∶ 2) false).answers ≡ a ∶ 1 ∷ []
no_counts_not = refl

states : compatible_sets six ≡ six_states
unfolding words
states = refl

all_states : compatible_sets (begun 3 Free) ≡ subsets 3
unfolding words
all_states = refl

after_retraction : compatible_sets (retracted six 1) ≡ subsets 3
unfolding words
after_retraction = refl

one_item : compat 1 Free [] ≡ a ∷ ∅ ∷ []
unfolding words
one_item = refl

-- a query with a set A of two items
two_items : compat 3 Free (ab ∶ 2 ∷ []) ≡ abc ∷ ab ∷ ac ∷ a ∷ bc ∷ b ∷ ∅ ∷ []
unfolding words
two_items = refl

from_base : compat 3 (Sets (abc ∷ ab ∷ [])) [] ≡ abc ∷ ab ∷ ∅ ∷ []
unfolding words
from_base = refl

interior_of_bc : interior six_states bc ≡ c
unfolding words
interior_of_bc = refl

closure_of_a : closure abc six_states a ≡ ab
unfolding words
closure_of_a = refl
