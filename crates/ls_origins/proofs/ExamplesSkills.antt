-- Examples of skill maps on the items a b c: a has the skill s, b has s and t, and c has t.
use Rattle.std.proofs.Common.{◌≡◌, List, [], ◌∷◌, Some, true, refl}
use Rattle.ls_set.specs.ItemSet.{Items, comes_before}
use Rattle.ls_theory.specs.Bases.{base}
use Rattle.ls_theory.specs.Pages.{page}
use Rattle.ls_origins.specs.Skills.{any, all, duals}
use Rattle.ls_origins.proofs.Small.{words, ∅, a, ab, c, ac, bc, abc, six_states}

abbrev skills : List Items
skills = ab ∷ bc ∷ []

with_any_skill : any 3 skills ≡ abc ∷ ab ∷ bc ∷ ∅ ∷ []
unfolding words
with_any_skill = refl

with_all_skills : all 3 skills ≡ abc ∷ a ∷ c ∷ ∅ ∷ []
unfolding words
with_all_skills = refl

their_complements : duals 3 (any 3 skills) ≡ abc ∷ a ∷ c ∷ ∅ ∷ []
unfolding words
their_complements = refl

-- one after the word {b c}, the third of the four members' cursors
after_the_first : page comes_before (all 3 skills) (Some ac) 1
    ≡ record { members = a ∷ []; more = true }
unfolding words
after_the_first = refl

-- one skill for each base set: {a b}, {a} and {c}
least_skills : base six_states ≡ ab ∷ a ∷ c ∷ []
unfolding words
least_skills = refl

their_states : any 3 (base six_states) ≡ six_states
unfolding words
their_states = refl
