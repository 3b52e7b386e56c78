-- Examples: pages of sets and of learning paths.
use Rattle.ls_theory.proofs.Vocabulary.{◌∷◌, ◌≡◌, None, Some, [], comes_before, false, is_lex_before, paths, refl, subsets, true}
use Rattle.ls_theory.specs.Pages.{page}
use Rattle.ls_theory.proofs.Small.{words, ∅, a, b, ab, c, ac, bc, abc, six_states}

-- from the start, after a member, and after a set that is none
first_page : page comes_before six_states None 2 ≡ record { members = abc ∷ ab ∷ []; more = true }
unfolding words
first_page = refl

second_page : page comes_before six_states (Some ab) 2 ≡ record { members = ac ∷ a ∷ []; more = true }
unfolding words
second_page = refl

after_none : page comes_before six_states (Some bc) 1 ≡ record { members = c ∷ []; more = true }
unfolding words
after_none = refl

last_page : page comes_before (subsets 3) (Some a) 4 ≡ record { members = bc ∷ b ∷ c ∷ ∅ ∷ []; more = false }
unfolding words
last_page = refl

whole_page : page comes_before six_states None 6 ≡ record { members = six_states; more = false }
unfolding words
whole_page = refl

empty_page : page comes_before six_states None 0 ≡ record { members = []; more = true }
unfolding words
empty_page = refl

-- the paths, and a page after an order that is none
three_paths : paths 3 six_states ≡ (0 ∷ 1 ∷ 2 ∷ []) ∷ (0 ∷ 2 ∷ 1 ∷ []) ∷ (2 ∷ 0 ∷ 1 ∷ []) ∷ []
unfolding words
three_paths = refl

after_order : page is_lex_before (paths 3 six_states) (Some (1 ∷ 0 ∷ 2 ∷ [])) 1 ≡ record { members = (2 ∷ 0 ∷ 1 ∷ []) ∷ []; more = false }
unfolding words
after_order = refl

-- the full set is a prefix too
no_paths : paths 2 (a ∷ ∅ ∷ []) ≡ []
unfolding words
no_paths = refl
