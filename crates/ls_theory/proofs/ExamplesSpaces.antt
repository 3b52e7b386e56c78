-- Examples: surmise functions, bases, peaks and verdicts on the items a b c.
use Rattle.ls_theory.proofs.Vocabulary.{◌∷◌, ◌≡◌, Clauses, Free, Learning, NoEmpty, NoFull, None, NotClosed, NotGraded, Some, Start, [], atoms_at, base, compat, false, is_learning_space, peak, peak_of, refl, true, verdict}
use Rattle.ls_theory.proofs.Small.{words, ∅, a, b, ab, c, ac, bc, abc, ◌∶◌, six, six_states}

-- a surmise function in which b has two clauses
abbrev surmise : Start
surmise = Clauses ((a ∷ []) ∷ (ab ∷ bc ∷ []) ∷ (c ∷ []) ∷ [])

surmise_states : compat 3 surmise [] ≡ abc ∷ ab ∷ ac ∷ a ∷ bc ∷ c ∷ ∅ ∷ []
unfolding words
surmise_states = refl

surmise_base : base (compat 3 surmise []) ≡ ab ∷ a ∷ bc ∷ c ∷ []
unfolding words
surmise_base = refl

atoms_at_b : atoms_at (compat 3 surmise []) 1 ≡ ab ∷ bc ∷ []
unfolding words
atoms_at_b = refl

-- a Yes that makes the base grow from three sets to four, and its peak
grown : base (compat 3 Free (ab ∶ 2 ∷ [])) ≡ ac ∷ a ∷ bc ∷ b ∷ []
unfolding words
grown = refl

peaked : peak 3 3 Free (ab ∶ 2 ∷ []) ≡ Some (record { position = 1; count = 4 })
unfolding words
peaked = refl

peaked_before : peak 3 3 Free (ab ∶ 2 ∷ a ∶ 2 ∷ []) ≡ Some (record { position = 1; count = 4 })
unfolding words
peaked_before = refl

no_peak : peak 4 3 Free (ab ∶ 2 ∷ a ∶ 2 ∷ []) ≡ None
unfolding words
no_peak = refl

-- three items have 8 sets, far fewer than the 4096 of the limit, so no interview on them has a peak
no_peak_of : peak_of six ≡ None
unfolding words
no_peak_of = refl

-- each verdict
no_empty : verdict abc (abc ∷ []) ≡ NoEmpty
unfolding words
no_empty = refl

no_full : verdict abc (∅ ∷ []) ≡ NoFull
unfolding words
no_full = refl

not_closed : verdict abc (abc ∷ a ∷ b ∷ ∅ ∷ []) ≡ NotClosed a b
unfolding words
not_closed = refl

not_graded : verdict abc (abc ∷ ab ∷ ∅ ∷ []) ≡ NotGraded ab 0 1
unfolding words
not_graded = refl

learning : verdict abc six_states ≡ Learning (ab ∷ a ∷ c ∷ [])
unfolding words
learning = refl

a_learning_space : is_learning_space abc six_states ≡ true
unfolding words
a_learning_space = refl

no_learning_space : is_learning_space abc (abc ∷ ab ∷ ∅ ∷ []) ≡ false
unfolding words
no_learning_space = refl
