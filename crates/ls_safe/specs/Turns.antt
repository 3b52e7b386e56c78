-- What laws say of the turns of a safe interview.
use Rattle.std.specs.Prelude.{ℕ, ◌≡◌, Bool, true, not, ◌&&◌, ◌||◌, nat_lt, List, ◌∷◌, ◌++◌, length}
use Rattle.std.specs.List.{list_all}
use Rattle.ls_set.specs.ItemSet.{Items}
use Rattle.ls_set.specs.declared.query.Query.{Query}
use Rattle.ls_theory.specs.Queries.{breaks}
use Rattle.ls_theory.specs.Bases.{base, most_base_sets}
use Rattle.ls_origins.specs.Safe.{Safe, Marks, trial, is_safe, waiting}
use Rattle.ls_origins.specs.declared.safe_answer.SafeAnswer.{SafeAnswer}

-- an answer was applied: those before it cannot be, and it alone leaves the list
pub record IsApplied (n : ℕ) (f : List Items) (rs : List Query) (s : Safe) : Type 0 where
  pub before : List Query
  pub query : Query
  pub after : List Query
  pub listed : rs ≡ before ++ query ∷ after
  pub left : s.waiting ≡ before ++ after
  pub family : s.family ≡ trial query f
  pub can : is_safe n f query ≡ true
  pub first : list_all (λ r. not (is_safe n f r)) before ≡ true

-- ---- marks

-- what is left of the marks
abbrev pub unmarked : Marks → Safe
unmarked s = record { family = s.family; waiting = waiting s.answers }

-- the answer is applied already, or cannot be
abbrev pub is_passed : ℕ → List Items → SafeAnswer → Bool
is_passed n f a = not (not a.applied && is_safe n f a.query)

-- the set breaks no answer that is applied
abbrev pub is_left : List SafeAnswer → Items → Bool
is_left answers k = list_all (λ a. not (a.applied && breaks k a.query)) answers

-- ---- what need not be tried again

-- the base has more sets than the limit
abbrev pub is_past : ℕ → List Items → Bool
is_past limit g = nat_lt limit (length (base g))

-- a trial of the answer is no learning space, and its base is not past the limit
abbrev pub is_still : ℕ → ℕ → List Items → Query → Bool
is_still limit n f r = not (is_safe n f r) && not (is_past limit (trial r f))

-- so it is of each answer that waits
abbrev pub are_still : ℕ → ℕ → Safe → Bool
are_still limit n s = list_all (is_still limit n s.family) s.waiting

-- the answer is applied, or was tried
abbrev pub is_over : ℕ → List Items → SafeAnswer → Bool
is_over n f a = a.applied || is_still most_base_sets n f a.query
