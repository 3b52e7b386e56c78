-- Examples: fringes and projections of the six states.
use Rattle.ls_theory.proofs.Vocabulary.{◌∷◌, ◌≡◌, Learning, None, Some, [], fringes, inner_fringe, outer_fringe, refl, state_of, verdict}
use Rattle.ls_theory.specs.Projections.{projection}
use Rattle.ls_theory.proofs.Small.{words, ∅, a, b, c, ac, bc, six_states}

-- fringes, and the way back
inner : inner_fringe six_states a ≡ a
unfolding words
inner = refl

outer : outer_fringe 3 six_states a ≡ bc
unfolding words
outer = refl

both : fringes 3 six_states ∅ ≡ record { inner = ∅; outer = ac }
unfolding words
both = refl

told : state_of 3 six_states a bc ≡ Some a
unfolding words
told = refl

told_empty : state_of 3 six_states ∅ ac ≡ Some ∅
unfolding words
told_empty = refl

not_told : state_of 3 six_states c bc ≡ None
unfolding words
not_told = refl

-- projections, on two items and on none; the verdict is on the two items
projected : projection 3 bc six_states ≡ bc ∷ b ∷ c ∷ ∅ ∷ []
unfolding words
projected = refl

projected_away : projection 3 ∅ six_states ≡ ∅ ∷ []
unfolding words
projected_away = refl

projection_verdict : verdict bc (projection 3 bc six_states) ≡ Learning (b ∷ c ∷ [])
unfolding words
projection_verdict = refl
