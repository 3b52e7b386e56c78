-- Examples of safe interviews on the items a b c.
use Rattle.std.proofs.Common.{◌≡◌, ℕ, [], ◌∷◌, length, Some, None, true, false, refl}
use Rattle.ls_set.specs.ItemSet.{subsets, comes_before}
use Rattle.ls_set.specs.declared.query.Query.{Query}
use Rattle.ls_theory.specs.Bases.{base}
use Rattle.ls_theory.specs.Pages.{page}
use Rattle.ls_theory.specs.Starts.{Free, Sets}
use Rattle.ls_theory.specs.Compatible.{compat}
use Rattle.ls_theory.specs.Interviews.{begun}
use Rattle.ls_theory.specs.Verdict.{base_verdict}
use Rattle.ls_theory.specs.declared.verdict.BaseVerdict.TheVariants.{NotGraded}
use Rattle.ls_origins.specs.Safe.{safe, marked, turn_past, safe_refusal, opened, safe_answers}
use Rattle.ls_origins.specs.Safe.{answered}
use Rattle.ls_origins.specs.declared.safe_answer.SafeAnswer.{SafeAnswer}
use Rattle.ls_origins.specs.declared.safe_fault.SafeFault.TheVariants.{BadQuery, Repeat}
use Rattle.ls_origins.proofs.Small.{words, ◌∶◌, ∅, a, b, ab, c, ac, bc, abc, six_states}

abbrev answer : ℕ → Query → SafeAnswer
answer number r = record { number = number; query = r; applied = true }

abbrev waits : ℕ → Query → SafeAnswer
waits number r = record { number = number; query = r; applied = false }

-- ---- the second answer waits until the third is applied

opening : length (base (compat 3 Free [])) ≡ 3
unfolding words
opening = refl

first_is_applied : marked 3 (subsets 3) (a ∶ 1 ∷ [])
    ≡ record { family = six_states; answers = answer 1 (a ∶ 1) ∷ [] }
unfolding words
first_is_applied = refl

-- {a b} would be an atom at a and at b
second_cannot_be : base_verdict (abc ∷ ab ∷ ac ∷ c ∷ ∅ ∷ []) ≡ NotGraded ab 0 1
unfolding words
second_cannot_be = refl

second_waits : marked 3 (subsets 3) (a ∶ 1 ∷ bc ∶ 0 ∷ [])
    ≡ record { family = six_states; answers = answer 1 (a ∶ 1) ∷ waits 2 (bc ∶ 0) ∷ [] }
unfolding words
second_waits = refl

third_lets_it_in : marked 3 (subsets 3) (a ∶ 1 ∷ bc ∶ 0 ∷ c ∶ 0 ∷ [])
    ≡ record {
      family = abc ∷ ac ∷ c ∷ ∅ ∷ [];
      answers = answer 1 (a ∶ 1) ∷ answer 2 (bc ∶ 0)
          ∷ answer 3 (c ∶ 0) ∷ [];
    }
unfolding words
third_lets_it_in = refl

none_waits : safe 3 (subsets 3) (a ∶ 1 ∷ bc ∶ 0 ∷ c ∶ 0 ∷ [])
    ≡ record { family = abc ∷ ac ∷ c ∷ ∅ ∷ []; waiting = [] }
unfolding words
none_waits = refl

safe_states : (page comes_before (abc ∷ ac ∷ c ∷ ∅ ∷ []) None 10).members ≡ abc ∷ ac ∷ c ∷ ∅ ∷ []
unfolding words
safe_states = refl

third_again : safe_refusal 3 (subsets 3) (a ∶ 1 ∷ bc ∶ 0 ∷ c ∶ 0 ∷ []) (c ∶ 0) ≡ Some (Repeat 3)
unfolding words
third_again = refl

-- one that waits is accepted too
second_again : safe_refusal 3 (subsets 3) (a ∶ 1 ∷ bc ∶ 0 ∷ []) (bc ∶ 0) ≡ Some (Repeat 2)
unfolding words
second_again = refl

bad : safe_refusal 3 (subsets 3) (a ∶ 1 ∷ []) (a ∶ 0) ≡ Some BadQuery
unfolding words
bad = refl

accepted : safe_refusal 3 (subsets 3) (a ∶ 1 ∷ []) (bc ∶ 0) ≡ None
unfolding words
accepted = refl

-- ---- of two answers one waits for ever

one_waits : marked 3 (subsets 3) (a ∶ 1 ∷ b ∶ 0 ∷ [])
    ≡ record { family = six_states; answers = answer 1 (a ∶ 1) ∷ waits 2 (b ∶ 0) ∷ [] }
unfolding words
one_waits = refl

-- ---- as a session has it

in_a_session : safe_answers 3 (answered (answered (opened (begun 3 Free)) (a ∶ 1)) (b ∶ 0))
    ≡ answer 1 (a ∶ 1) ∷ waits 2 (b ∶ 0) ∷ []
unfolding words
in_a_session = refl

-- ---- a space on which none is opened: the unions of {a b} and {a b c}

not_opened : base_verdict (compat 3 (Sets (ab ∷ abc ∷ [])) []) ≡ NotGraded ab 0 1
unfolding words
not_opened = refl

-- ---- the one trial of the first answer has 3 base sets

past_two : turn_past 2 3 (record { family = subsets 3; waiting = [] }) (a ∶ 1) ≡ Some 3
unfolding words
past_two = refl

past_three : turn_past 3 3 (record { family = subsets 3; waiting = [] }) (a ∶ 1) ≡ None
unfolding words
past_three = refl
