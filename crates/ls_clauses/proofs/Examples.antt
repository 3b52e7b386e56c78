-- Examples on the items a b c: a surmise function in which b has two clauses, flaws of others, and starts by base sets.
use Rattle.ls_clauses.proofs.Vocabulary.{◌∷◌, ◌≡◌, Comparable, Greater, Items, List, NoClause, None, NotClosed, Reflexive, Some, [], all_clauses, base, clauses_at, compat, false, flaw, full, has_clause_within, interior, least, minus, needed, order_of, refl, spanned, unions}
use Rattle.ls_theory.specs.Starts.{Clauses, Sets}
use Rattle.ls_clauses.proofs.Small.{words, ∅, a, b, ab, c, ac, bc, abc}

-- ---- a surmise function

abbrev surmise : List (List Items)
surmise = (a ∷ []) ∷ (ab ∷ bc ∷ []) ∷ (c ∷ []) ∷ []

its_states : compat 3 (Clauses surmise) [] ≡ abc ∷ ab ∷ ac ∷ a ∷ bc ∷ c ∷ ∅ ∷ []
unfolding words
its_states = refl

its_unions : spanned 3 (all_clauses surmise) ≡ abc ∷ ab ∷ ac ∷ a ∷ bc ∷ c ∷ ∅ ∷ []
unfolding words
its_unions = refl

its_base : base (compat 3 (Clauses surmise) []) ≡ ab ∷ a ∷ bc ∷ c ∷ []
unfolding words
its_base = refl

its_clauses : clauses_at 3 (compat 3 (Clauses surmise) []) ≡ surmise
unfolding words
its_clauses = refl

-- no clause of b lies within {b}, so b is dropped, and nothing is left
none_within_b : has_clause_within surmise 1 b ≡ false
unfolding words
none_within_b = refl

inside_b : interior (compat 3 (Clauses surmise) []) b ≡ ∅
unfolding words
inside_b = refl

-- ---- flaws

no_flaw : flaw 3 surmise ≡ None
unfolding words flaw
no_flaw = refl

no_clause_of_b : flaw 3 ((a ∷ []) ∷ [] ∷ (c ∷ []) ∷ []) ≡ Some (NoClause 1)
unfolding words flaw
no_clause_of_b = refl

without_b : flaw 3 ((a ∷ []) ∷ (bc ∷ a ∷ []) ∷ (c ∷ []) ∷ []) ≡ Some (Reflexive 1 2)
unfolding words flaw
without_b = refl

-- no clause of a lies within {a b}
not_closed : flaw 3 ((ac ∷ []) ∷ (ab ∷ []) ∷ (c ∷ []) ∷ []) ≡ Some (NotClosed 1 1 0)
unfolding words flaw
not_closed = refl

comparable : flaw 3 ((a ∷ []) ∷ (ab ∷ bc ∷ abc ∷ []) ∷ (c ∷ []) ∷ []) ≡ Some (Comparable 1 1 3)
unfolding words flaw
comparable = refl

repeated : flaw 3 ((a ∷ a ∷ []) ∷ (ab ∷ []) ∷ (c ∷ []) ∷ []) ≡ Some (Comparable 0 1 2)
unfolding words flaw
repeated = refl

-- ---- base starts

started : compat 3 (Sets (abc ∷ ab ∷ [])) [] ≡ abc ∷ ab ∷ ∅ ∷ []
unfolding words
started = refl

started_base : needed (abc ∷ ab ∷ []) ≡ abc ∷ ab ∷ []
unfolding words
started_base = refl

-- no set has c
missing_c : least (minus (full 3) (unions (ab ∷ []))) ≡ Some 2
unfolding words
missing_c = refl

none_missing : least (minus (full 3) (unions (abc ∷ ab ∷ []))) ≡ None
unfolding words
none_missing = refl

-- ---- lookups

found_c : order_of c ab ≡ Greater
unfolding words
found_c = refl
