-- Examples: interviews on a few items, what their answers force, and what is asked next.
use Rattle.ls_theory.proofs.Vocabulary.{◌∷◌, ◌≡◌, Free, Interview, None, Some, [], accepted, begun, compatible_sets, false, is_settled, known, length, next_question, refl, retracted, spaces_of, subsets, true}
use Rattle.ls_theory.specs.declared.known.Known.TheVariants as Known
use Rattle.ls_theory.proofs.Small.{words, ∅, a, b, ab, ac, c, ◌∶◌, six}

fitting : length (spaces_of six) ≡ 14
unfolding words
fitting = refl

-- a No is filled in: b failing would carry the failure from a to c
abbrev two : Interview
two = accepted six (a ∶ 2) false

filled_no : known two (b ∶ 2) ≡ Known.No 2
unfolding words
filled_no = refl

filled_yes : known two (a ∶ 1) ≡ Known.Yes
unfolding words
filled_yes = refl

next : next_question two None ≡ Some (b ∶ 0)
unfolding words
next = refl

following : next_question two (Some (b ∶ 0)) ≡ Some (c ∶ 0)
unfolding words
following = refl

-- of two that force it, the least number
least_number : known (accepted two (b ∶ 2) false) (b ∶ 2) ≡ Known.No 2
unfolding words
least_number = refl

withdrawn : known (retracted two 1) (b ∶ 2) ≡ Known.Unsettled
unfolding words
withdrawn = refl

all_sets : compatible_sets (retracted two 1) ≡ subsets 3
unfolding words
all_sets = refl

never_asked : known six (ac ∶ 1) ≡ Known.Yes
unfolding words
never_asked = refl

-- one item has no query; two items, to the one space that fits
one_item : is_settled (begun 1 Free) ≡ true
unfolding words
one_item = refl

first_of_two : next_question (begun 2 Free) None ≡ Some (a ∶ 1)
unfolding words
first_of_two = refl

second_of_two : next_question (accepted (begun 2 Free) (a ∶ 1) true) None ≡ Some (b ∶ 0)
unfolding words
second_of_two = refl

settled : is_settled (accepted (accepted (begun 2 Free) (a ∶ 1) true) (b ∶ 0) false) ≡ true
unfolding words
settled = refl

one_space : spaces_of (accepted (accepted (begun 2 Free) (a ∶ 1) true) (b ∶ 0) false) ≡ (ab ∷ a ∷ ∅ ∷ []) ∷ []
unfolding words
one_space = refl
