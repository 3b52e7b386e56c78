-- Examples on the items a b c: the clauses that bases give.
use Rattle.ls_surmise.proofs.Vocabulary.{◌∷◌, ◌≡◌, BaseState, Err, Items, List, NotSpanning, Ok, Result, ℕ, [], bound, comes_before, differing, empty, full, has, interior, is_same, is_within, items, least, len, meet, minus, refl, single, spanned, surmised, union, with, without}
use Rattle.ls_surmise.specs.declared.fault.FromFault.{FromFault}

-- an example that opens this opens each word
unfoldable words : ℕ
unfolding has empty full with without union meet minus single differing is_within is_same bound items len least comes_before interior spanned
words = 0

abbrev set : ℕ → Items
set digits = record { digits = digits }

abbrev a : Items
a = set 1

abbrev ab : Items
ab = set 3

abbrev c : Items
c = set 4

abbrev bc : Items
bc = set 6

abbrev given_by : List Items → Result (List (List Items)) FromFault
given_by sets = let b : BaseState = record { item_count = 3; sets = sets } in surmised b

two_clauses_of_b : given_by (ab ∷ a ∷ bc ∷ c ∷ []) ≡ Ok ((a ∷ []) ∷ (ab ∷ bc ∷ []) ∷ (c ∷ []) ∷ [])
unfolding words
two_clauses_of_b = refl

one_clause_for_two : given_by (ab ∷ bc ∷ []) ≡ Ok ((ab ∷ []) ∷ (ab ∷ bc ∷ []) ∷ (bc ∷ []) ∷ [])
unfolding words
one_clause_for_two = refl

no_set_with_c : given_by (ab ∷ a ∷ []) ≡ Err (NotSpanning 2)
unfolding words
no_set_with_c = refl
